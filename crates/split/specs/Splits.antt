-- How a range is split into pieces, one for each frame. Assumes nothing.
use Rattle.std.specs.Prelude.{◌≡◌, ℕ, zero, suc, ◌+◌, ◌-◌, ◌%◌, ◌^◌, ◌<◌, ◌≤◌, min, Bool, IsTrue, if◌then◌else◌, ◌&&◌, List, [], ◌∷◌, length, Some, None, Option, nat_le, nat_lt}
use Rattle.std.proofs.Common.{arith}
use Rattle.clock.specs.declared.range.Latency.{Latency}
use Rattle.frame.specs.Low.{low_clocks}
use Rattle.frame.specs.Spans.{span_of}
use Rattle.frame.specs.declared.span.Span.{Span}
use Rattle.frame.specs.declared.low.Transfer.{Transfer}
use Rattle.split.specs.Directions.{limit}
use Rattle.split.specs.declared.direction.Direction.{Direction}

-- below, s is the start and e the end of a range, n the length of a piece or range, p the length of a page

-- a frame of n bytes keeps tCEM exactly where n is at most the limit
pub record IsLimit (frame : ℕ → Transfer) (tcem limit : ℕ) : Type 0 where
  pub keeps : (n : ℕ) → n ≤ limit → low_clocks (frame n) ≤ tcem
  pub most : (n : ℕ) → limit < n → tcem < low_clocks (frame n)

-- a piece of n bytes from s: not empty, within the limit, and in one page
abbrev pub fits : ℕ → ℕ → ℕ → ℕ → Bool
fits p limit s n = nat_lt 0 n && (nat_le n limit && nat_le (s % p + n) p)

-- a range of n bytes from s, rounded out to even ends
abbrev pub rounded_from : ℕ → ℕ
rounded_from s = s - s % 2

abbrev pub rounded_to : ℕ → ℕ → ℕ
rounded_to s n = s + n + (s + n) % 2

-- it begins at or before its start, and so before its end
pub rounded_ordered : (s n : ℕ) → rounded_from s ≤ rounded_to s n
rounded_ordered s n = omega arith

abbrev pub rounded_span : ℕ → ℕ → Option Span
rounded_span s n =
    if nat_lt (rounded_to s n) (2 ^ 32)
    then Some (record { from = rounded_from s; to = rounded_to s n; ordered = rounded_ordered s n })
    else None

abbrev pub HasEvenEnds : Span → Type 0
HasEvenEnds span = (span.from % 2 ≡ 0) × (span.to % 2 ≡ 0)

-- lengths of consecutive pieces from s to e that all fit, each even: from an even s all ends are even
abbrev pub IsLawful : (ℕ → ℕ → Bool) → ℕ → ℕ → List ℕ → Type 0
IsLawful fit s e [] = s ≡ e
IsLawful fit s e (n ∷ ns) = IsTrue (fit s n) × (n % 2 ≡ 0) × IsLawful fit (s + n) e ns

-- the length of the longest piece from s that is within the range to e
abbrev pub next_length : ℕ → ℕ → ℕ → ℕ → ℕ
next_length p limit s e = min (e - s) (min limit (p - s % p))

-- the lengths that a rule for the next piece gives one after the other, at most so many
abbrev pub lengths_by : (ℕ → ℕ → ℕ) → ℕ → ℕ → ℕ → List ℕ
lengths_by next zero s e = []
lengths_by next (suc most) s e = if nat_lt s e then next s e ∷ lengths_by next most (s + next s e) e else []

-- the split that takes the longest piece each time
abbrev pub longest_first : ℕ → ℕ → ℕ → ℕ → List ℕ
longest_first p limit s e = lengths_by (next_length p limit) (e - s) s e

-- pieces of these lengths, one after the other from s
abbrev pub pieces_from : ℕ → List ℕ → List Span
pieces_from s [] = []
pieces_from s (n ∷ ns) = span_of s n ∷ pieces_from (s + n) ns

-- the pieces of that split
abbrev pub pieces : ℕ → ℕ → ℕ → ℕ → List Span
pieces p limit s e = pieces_from s (longest_first p limit s e)

-- a predicate that holds of every part of a piece that it holds of
abbrev pub IsClosedUnderParts : (ℕ → ℕ → Bool) → Type 0
IsClosedUnderParts fit =
    (s n t m : ℕ) → IsTrue (fit s n) → s ≤ t → 0 < m → t + m ≤ s + n → IsTrue (fit t m)

-- next is the longest of all pieces from s that fit and end by e, and even where s and e are
pub record TakesLongest (fit : ℕ → ℕ → Bool) (next : ℕ → ℕ → ℕ) : Type 0 where
  pub some : (s e : ℕ) → s < e → 0 < next s e
  pub within : (s e : ℕ) → s < e → s + next s e ≤ e
  pub even : (s e : ℕ) → s % 2 ≡ 0 → e % 2 ≡ 0 → s < e → next s e % 2 ≡ 0
  pub fitting : (s e : ℕ) → s < e → IsTrue (fit s (next s e))
  pub most : (s e n : ℕ) → IsTrue (fit s n) → s + n ≤ e → n ≤ next s e

-- no lawful split has fewer pieces than the one that takes the longest each time
abbrev pub LongestFirstIsFewest : Type 0
LongestFirstIsFewest =
    (fit : ℕ → ℕ → Bool) (next : ℕ → ℕ → ℕ) → IsClosedUnderParts fit → TakesLongest fit next
    → (s e : ℕ) (ns : List ℕ) → IsLawful fit s e ns → length (lengths_by next (e - s) s e) ≤ length ns

-- the same of pieces in one page, within the limit
abbrev pub LongestFirstIsFewestIn : ℕ → ℕ → Type 0
LongestFirstIsFewestIn p limit =
    (s e : ℕ) (ns : List ℕ) → IsLawful (fits p limit) s e ns → length (longest_first p limit s e) ≤ length ns

-- the number of frames that n bytes from s take at a clock: the pieces of the rounded range
abbrev pub frames : Direction → ℕ → ℕ → Latency → ℕ → ℕ → ℕ
frames d p tcem l s n = length (longest_first p (limit d tcem l) (rounded_from s) (rounded_to s n))
