-- Frames sent one after another to one chip, as its own relation has them. Assumes nothing.
-- `gives` is what the chip itself says of an event, `meaning` what a value of it means.
use Rattle.std.specs.Prelude.{◌≡◌, ℕ, ◌≤◌, List, [], ◌∷◌, length, map, sum_by, None, All}
use Rattle.chip.specs.Meaning.{Meaning, most_low}
use Rattle.chip.specs.Refused.{least_gap}
use Rattle.chip.specs.Runs.{Happens, refusal, Step, Runs, CountsFit, RisesBy}
use Rattle.chip.specs.Sent.{Sent, Event, sending, Answer, FitsBuffer}
use Rattle.chip.specs.declared.state.Phase.TheVariants.{Awake}

-- one exchange: the gap before the frame, the frame, the buffer before it, the answer, the buffer after it, and how
-- many clocks CE# was low
pub record Exchange : Type 0 where
  pub gap : ℕ
  pub frame : Sent
  pub before : List ℕ
  pub answer : Answer
  pub after : List ℕ
  pub low : ℕ

abbrev pub event_of : Exchange → Event
event_of x = sending x.gap x.frame x.before x.answer x.after

-- a chip came from c to d by this exchange: after the least gap, taken, and low as long as it says
pub record IsExchange {X : Type 0} (meaning : X → Meaning) (gives : X → Event → X → Type 0)
    (c : X) (x : Exchange) (d : X) : Type 0 where
  pub happens : Happens meaning gives c (event_of x) d
  pub fits : FitsBuffer x.frame x.before
  pub soonest : x.gap ≡ least_gap (meaning c).config (meaning c).state
  pub taken : refusal (meaning c) (event_of x) ≡ None
  pub low : x.low ≡ (meaning d).state.latest_low

-- from one value to another by these exchanges, and nothing else
pub data Chain {X : Type 0} (meaning : X → Meaning) (gives : X → Event → X → Type 0) : X → List Exchange → X
    → Type 0 where
  done : {c : X} → Chain meaning gives c [] c
  next : {c d e : X} {x : Exchange} {rest : List Exchange} → IsExchange meaning gives c x d
      → Chain meaning gives d rest e → Chain meaning gives c (x ∷ rest) e

-- ---- what is true of every chain

-- the events of a chain are a run
pub record IsRun (m : Meaning) (xs : List Exchange) (n : Meaning) : Type 0 where
  pub steps : List Step
  pub events : map (λ s. s.event) steps ≡ map event_of xs
  pub runs : Runs m steps n

-- every frame, a lost read too, was low at most tCEM
abbrev pub KeepsTcem : Meaning → List Exchange → Type 0
KeepsTcem m xs = All (λ x. x.low ≤ most_low m.config) xs

-- of a chip that is awake, the counts rise by the number of the frames and the sum of their low clocks
abbrev pub CountsRise : Meaning → List Exchange → Meaning → Type 0
CountsRise m xs n =
    m.state.phase ≡ Awake → CountsFit m → RisesBy m (length xs) (sum_by (λ x. x.low) xs) n

pub record IsChain (m : Meaning) (xs : List Exchange) (n : Meaning) : Type 0 where
  pub run : IsRun m xs n
  pub short : KeepsTcem m xs
  pub counted : CountsRise m xs n

abbrev pub EveryChain : {X : Type 0} → (X → Meaning) → (X → Event → X → Type 0) → Type 0
EveryChain {X} meaning gives =
    (c d : X) (xs : List Exchange) → Chain meaning gives c xs d → IsChain (meaning c) xs (meaning d)
