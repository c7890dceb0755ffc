-- No lawful split has fewer pieces than the one that takes the longest each time. Assumes nothing.
use Rattle.std.proofs.Common.{◌≡◌, ℕ, zero, suc, ◌+◌, ◌-◌, ◌%◌, ◌<◌, ◌≤◌, Bool, List, [], ◌∷◌, length, ap, arith}
use Rattle.std.proofs.lemmas.Bool.Decides.{nat_tests}
use Rattle.frame.specs.Pages.{page}
use Rattle.frame.specs.declared.make.Make.{Make}
use Rattle.frame.specs.declared.make.Make.TheVariants as make
use Rattle.split.specs.Splits.{fits, IsLawful, lengths_by, IsClosedUnderParts, TakesLongest, LongestFirstIsFewest, LongestFirstIsFewestIn}
use Rattle.split.proofs.Longest.{takes_longest, lengths_none}

-- a split ends at or past its start
ends_later : (fit : ℕ → ℕ → Bool) (s e : ℕ) (ns : List ℕ) → IsLawful fit s e ns → s ≤ e
ends_later fit s e [] same = omega arith
ends_later fit s e (n ∷ ns) (f, even, rest) = omega (arith, ends_later fit (s + n) e ns rest)

module _ {fit : ℕ → ℕ → Bool} {next : ℕ → ℕ → ℕ} (closed : IsClosedUnderParts fit) (rule : TakesLongest fit next) where
  -- from q, at or past the start p of another split, the longest pieces are no more than the pieces of that split
  ahead : (most p q e : ℕ) (ns : List ℕ) → e - q ≤ most → p ≤ q → q ≤ e → IsLawful fit p e ns → length (lengths_by next most q e) ≤ length ns
  ahead most p q e [] h i j same = omega (arith, ap length (lengths_none rule most q e (omega arith)))
  ahead zero p q e (n ∷ ns) h i j split = omega arith
  ahead (suc most) p q e (n ∷ ns) h i j (f, even, rest) =
      grind (arith, nat_tests, ends_later fit (p + n) e ns rest, closed p n q (p + n - q) f i, rule.most q e (p + n - q), rule.some q e, rule.within q e, ahead most (p + n) (q + next q e) e ns, ahead (suc most) (p + n) q e ns)

pub fewest : LongestFirstIsFewest
fewest fit next closed rule s e ns split = ahead closed rule (e - s) s s e ns (omega arith) (omega arith) (ends_later fit s e ns split) split

-- a part of a piece that fits fits
closed : (m : Make) (limit : ℕ) → IsClosedUnderParts (fits (page m) limit)
closed make.A limit s n t m h i j k = grind (arith, nat_tests)
closed make.S limit s n t m h i j k = grind (arith, nat_tests)

pub fewest_here : (m : Make) (limit : ℕ) → 0 < limit → limit % 2 ≡ 0 → LongestFirstIsFewestIn (page m) limit
fewest_here m limit some even = fewest _ _ (closed m limit) (takes_longest m limit some even)
