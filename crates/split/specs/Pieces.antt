-- The split of a splitter, what is left of a range that is split, and how many frames a request takes. Assumes nothing.
use Rattle.std.specs.Prelude.{ℕ, Bool, List, Option}
use Rattle.std.specs.Option.{option_map}
use Rattle.clock.specs.declared.numbers.Clock.{Clock}
use Rattle.frame.specs.Pages.{page}
use Rattle.frame.specs.declared.make.Make.{Make}
use Rattle.frame.specs.declared.span.Span.{Span}
use Rattle.split.specs.Directions.{latency}
use Rattle.split.specs.Splits.{fits, next_length, longest_first, pieces, rounded_span, frames}
use Rattle.split.specs.declared.direction.Direction.{Direction}
use Rattle.split.specs.declared.pieces.Pieces.{Pieces}
use Rattle.split.specs.declared.splitter.Splitter.{Splitter}

-- a piece of n bytes from s
abbrev pub fits_in : Splitter → ℕ → ℕ → Bool
fits_in splitter s n = fits (page splitter.make) splitter.limit s n

-- the length of the next piece of the range from s to e
abbrev pub next_length_in : Splitter → ℕ → ℕ → ℕ
next_length_in splitter s e = next_length (page splitter.make) splitter.limit s e

-- the lengths of the pieces of a span
abbrev pub lengths_in : Splitter → Span → List ℕ
lengths_in splitter span = longest_first (page splitter.make) splitter.limit span.from span.to

-- the pieces of a span
abbrev pub pieces_in : Splitter → Span → List Span
pieces_in splitter span = pieces (page splitter.make) splitter.limit span.from span.to

-- the pieces that are left
abbrev pub pieces_left : Pieces → List Span
pieces_left it = pieces_in it.splitter it.left

-- the number of frames that n bytes from s take, where the rounded range has an end that fits
abbrev pub frames_of : Direction → Make → Clock → ℕ → ℕ → Option ℕ
frames_of d make clock s n =
    option_map (λ _. frames d (page make) clock.tcem (latency d clock.lc clock.wl) s n) (rounded_span s n)
