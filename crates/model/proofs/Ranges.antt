-- A range of addresses that a span covers. Assumes nothing.
use Rattle.std.proofs.Common.{◌≡◌, ℕ, zero, suc, ◌+◌, ◌<◌, ◌≤◌, true, ◌&&◌, ltb, leb, refl, arith}
use Rattle.std.proofs.lemmas.Grind.{common_steps}

-- where it begins in the span, and is not empty, it is covered exactly when it ends in the span
pub range_covered : (low high from count : ℕ) → low ≤ from → (count ≡ 0 → ⊥) →
    (leb (from + count) high ≡ true → (a : ℕ) → from ≤ a → a < from + count → (leb low a && ltb a high) ≡ true)
    × (((a : ℕ) → from ≤ a → a < from + count → (leb low a && ltb a high) ≡ true) → leb (from + count) high ≡ true)
range_covered low high from zero begins some = absurd (some refl)
range_covered low high from (suc n) begins some = (
  λ yes a i j. grind (arith, common_steps),
  λ all. let last = all (from + n) (omega arith) (omega arith) in grind (arith, common_steps),
)
