-- The pieces of a range that is rounded out to even ends: where each lies, and how long it is.
use Rattle.std.proofs.Common.{◌≡◌, ℕ, ◌+◌, ◌-◌, ◌%◌, ◌^◌, ◌<◌, ◌≤◌, Bool, true, false, if◌then◌else◌, ◌&&◌, nat_lt, nat_le, List, [], ◌∷◌, length, Some, None, Option, refl, sym, ◌∙◌, ap, arith}
use Rattle.std.proofs.lemmas.Bool.{and_parts, ltb-true, leb-true}
use Rattle.std.proofs.lemmas.Option.{same_Some}
use Rattle.clock.specs.Times.{clocks}
use Rattle.frame.specs.Pages.{page}
use Rattle.frame.specs.declared.span.Span.{Span}
use Rattle.chip.specs.declared.config.Config.{Config}
use Rattle.split.specs.Directions.{limit, latency}
use Rattle.split.specs.Pieces.{pieces_in}
use Rattle.split.specs.Splits.{fits, IsLawful, pieces_from, pieces, rounded_span, rounded_from, rounded_to, rounded_ordered}
use Rattle.split.specs.declared.direction.Direction.{Direction}
use Rattle.split.specs.declared.direction.Direction.TheVariants.{Read, Write}
use Rattle.split.specs.declared.splitter.Splitter.{Splitter}
use Rattle.split.proofs.Longest.{takes_longest, lawful}
use Rattle.port.specs.Plans.{pieces_of}
use Rattle.chip.specs.Sizes.{most_bytes}
use Rattle.chip.proofs.Most.{tcem_most, least_latency}

-- a piece from s has some bytes, at most so many, and even ends
pub record IsPiece (most s : ℕ) (piece : Span) : Type 0 where
  pub from : piece.from ≡ s
  pub some : piece.from < piece.to
  pub short : piece.to - piece.from ≤ most
  pub even : piece.from % 2 ≡ 0
  pub even_end : piece.to % 2 ≡ 0

-- one after the other from s to e
abbrev pub IsSplit : ℕ → ℕ → ℕ → List Span → Type 0
IsSplit most s e [] = s ≡ e
IsSplit most s e (piece ∷ rest) = IsPiece most s piece × IsSplit most piece.to e rest

-- each has a byte at least
pub few : (most s e : ℕ) (pieces : List Span) → IsSplit most s e pieces → s + length pieces ≤ e
few most s e [] same = omega arith
few most s e (piece ∷ rest) (one, more) = omega (arith, one.from, one.some, few most piece.to e rest more)

-- ---- how long a piece may be

-- the most bytes of one
abbrev pub most_of : Direction → Config → ℕ
most_of d k = limit d k.clock.tcem (latency d k.clock.lc k.clock.wl)

-- one may have a byte
pub some_most : (d : Direction) (k : Config) → 0 < most_of d k
some_most Read k = omega (arith, k.clock.roomy, ap clocks k.clock.reads)
some_most Write k = omega (arith, k.clock.roomy, ap clocks k.clock.writes)

-- what holds the bytes of a frame has room for them
pub most_in_scratch : (d : Direction) (k : Config) → most_of d k ≤ most_bytes
most_in_scratch Read k = omega (arith, tcem_most k.clock, least_latency k.clock.lc)
most_in_scratch Write k = omega (arith, tcem_most k.clock, least_latency k.clock.wl)

-- ---- a lawful split

-- lawful lengths from an even start on split what they cover
split_from : (p most s e : ℕ) (ns : List ℕ) → IsLawful (fits p most) s e ns → s % 2 ≡ 0
    → IsSplit most s e (pieces_from s ns)
split_from p most s e [] same even = same
split_from p most s e (n ∷ ns) (fit, even_length, rest) even =
    let (some, more) = and_parts (nat_lt 0 n) (nat_le n most && nat_le (s % p + n) p) fit in
    let (short, inside) = and_parts (nat_le n most) (nat_le (s % p + n) p) more in
    let some_is = ltb-true 0 n some in
    let short_is = leb-true n most short in (
      record { from = refl; some = omega arith; short = omega arith; even = even; even_end = omega arith },
      split_from p most (s + n) e ns rest (omega arith),
    )

-- the pieces of a range split what it is rounded out to
pub split_of : (d : Direction) (k : Config) (a n : ℕ)
    → IsSplit (most_of d k) (rounded_from a) (rounded_to a n) (pieces_of d k a n)
split_of d k a n =
    split_from (page k.make) (most_of d k) (rounded_from a) (rounded_to a n) _
    (lawful (takes_longest k.make (most_of d k) (some_most d k) (omega arith)) (rounded_from a) (rounded_to a n)
    (omega arith) (omega arith) (rounded_ordered a n))
    (omega arith)

-- ---- the pieces of a splitter

-- n bytes from a, rounded out to even ends
abbrev rounded_out : ℕ → ℕ → Span
rounded_out a n = record { from = rounded_from a; to = rounded_to a n; ordered = rounded_ordered a n }

-- the ends of a span that is rounded out
rounded_ends : (a n : ℕ) (span : Span) → Some span ≡ rounded_span a n
    → (span.from ≡ rounded_from a) × (span.to ≡ rounded_to a n)
rounded_ends a n span = by_test (nat_lt (rounded_to a n) (2 ^ 32))
  where
    by_test : (b : Bool) → Some span ≡ (if b then Some (rounded_out a n) else None)
        → (span.from ≡ rounded_from a) × (span.to ≡ rounded_to a n)
    by_test true is = let same = same_Some span (rounded_out a n) is in (ap (λ p. p.from) same, ap (λ p. p.to) same)
    by_test false is = cc

-- of one for a direction, over a range that is rounded out
pub pieces_are : (d : Direction) (a n : ℕ) {k l : Config} (splitter : Splitter) {span : Span} {rounded : Option Span}
    → l ≡ k → splitter.make ≡ l.make → splitter.limit ≡ most_of d l → rounded ≡ rounded_span a n → rounded ≡ Some span
    → pieces_in splitter span ≡ pieces_of d k a n
pieces_are d a n splitter {span = span} same make limit_is is some =
    let (from, to) = rounded_ends a n span (sym some ∙ is) in
    (λ i. pieces (page (make i)) (limit_is i) (from i) (to i)) ∙ ap (λ j. pieces_of d j a n) same
