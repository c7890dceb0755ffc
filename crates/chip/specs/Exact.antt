-- A chip of which each event has one outcome. Assumes nothing.
use Rattle.std.specs.Prelude.{◌≡◌, ℕ, List, map, Result}
use Rattle.fault.specs.declared.Fault.{Fault}
use Rattle.chip.specs.Chains.{Exchange, Chain}
use Rattle.chip.specs.Meaning.{Meaning}
use Rattle.chip.specs.Sent.{Sent, Event, sending, resetting, Answer, FitsBuffer, read_bytes}

-- two outcomes of one frame are the same: the values after it, the answers, what was read, and the buffers where they
-- were the same before
pub record SameOutcome {X : Type 0} (same : X → X → Type 0) (f : Sent) (old older : List ℕ) (p q : X) (r s : Answer)
    (new newer : List ℕ) : Type 0 where
  pub after : same p q
  pub answer : r ≡ s
  pub bytes : read_bytes f r new ≡ read_bytes f s newer
  pub buffer : old ≡ older → new ≡ newer

-- a value is known by what it shows: from values that show the same, one frame after one gap, and one pulse, have one
-- outcome each
pub record OneOutcome {X : Type 0} (meaning : X → Meaning) (gives : X → Event → X → Type 0)
    (same : X → X → Type 0) : Type 0 where
  pub itself : (c : X) → same c c
  pub means : (c d : X) → same c d → meaning c ≡ meaning d
  pub of_frame : (c d p q : X) (gap : ℕ) (f : Sent) (old older new newer : List ℕ) (r s : Answer) →
      same c d → FitsBuffer f old → FitsBuffer f older
      → gives c (sending gap f old r new) p → gives d (sending gap f older s newer) q
      → SameOutcome same f old older p q r s new newer
  pub of_pulse : (c d p q : X) (pulse : ℕ) (r s : Result (Unit {0}) (Fault ℕ)) →
      same c d → gives c (resetting pulse r) p → gives d (resetting pulse s) q → same p q × (r ≡ s)

-- the frames of a chain, and what came of each: the answer, what was read, and the low clocks
pub record Came : Type 0 where
  pub answer : Answer
  pub bytes : List ℕ
  pub low : ℕ

abbrev pub frame_of : Exchange → Sent
frame_of x = x.frame

abbrev pub came_of : Exchange → Came
came_of x = record { answer = x.answer; bytes = read_bytes x.frame x.answer x.after; low = x.low }

-- from values that show the same, the same frames, each after the least gap, come to the same
abbrev pub OneOutcomeOfChains : {X : Type 0} → (X → Meaning) → (X → Event → X → Type 0) → (X → X → Type 0) → Type 0
OneOutcomeOfChains {X} meaning gives same =
    (c d p q : X) (xs ys : List Exchange) → same c d → map frame_of xs ≡ map frame_of ys
    → Chain meaning gives c xs p → Chain meaning gives d ys q
    → same p q × (map came_of xs ≡ map came_of ys)
