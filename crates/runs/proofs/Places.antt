-- Where the bytes of a piece lie.
use Rattle.std.proofs.Common.{◌≡◌, ℕ, ◌+◌, ◌-◌, ◌%◌, ◌<◌, ◌≤◌, List, ap, ◌∙◌, subst, arith}
use Rattle.std.specs.Prelude.{IsTrue}
use Rattle.std.proofs.Math.Nat.{mod-eq_of_lt, mod-le}
use Rattle.std.proofs.lemmas.Bool.Decides.{nat_tests}
use Rattle.frame.specs.Bursts.{wrapped}
use Rattle.frame.specs.Pages.{page}
use Rattle.chip.specs.declared.config.Config.{Config}
use Rattle.split.specs.Splits.{fits, IsLawful}

-- of a burst in one page, byte i lies i behind the start
pub wrapped_in_page : (p s n i : ℕ) → s % p + n ≤ p → i < n → wrapped p s i ≡ s + i
wrapped_in_page p s n i fits h =
    let column : s - (s - s % p) ≡ s % p = omega (arith, mod-le s p) in
    let small : (s - (s - s % p) + i) % p ≡ s % p + i = ap (λ c. (c + i) % p) column ∙ mod-eq_of_lt (omega arith) in
    omega (arith, mod-le s p)

-- so many bytes from s are in one page of a chip
abbrev pub IsInPage : Config → ℕ → ℕ → Type 0
IsInPage k s count = s % page k.make + count ≤ page k.make

-- lengths of pieces from s to e, one behind the other, each at most this long and in one page of a chip
abbrev pub AreInPages : Config → ℕ → ℕ → ℕ → List ℕ → Type 0
AreInPages k limit s e ns = IsLawful (fits (page k.make) limit) s e ns

-- a piece that fits is in one page
fits_in_page : (p limit s n : ℕ) → IsTrue (fits p limit s n) → s % p + n ≤ p
fits_in_page p limit s n fit = grind (arith, nat_tests)

-- the same by the ends of the piece
pub piece_in_page : (k : Config) (limit s n : ℕ) → IsTrue (fits (page k.make) limit s n) → IsInPage k s (s + n - s)
piece_in_page k limit s n fit =
    let count : n ≡ s + n - s = omega arith in
    subst (IsInPage k s) count (fits_in_page (page k.make) limit s n fit)
