-- What a port does to its chip: it sends frames, and pulses RESET#. Assumes nothing.
-- `gives` is what the chip itself says of an event, `meaning` what a value of it means.
use Rattle.std.specs.Prelude.{◌≡◌, ℕ, Bool, false, ◌||◌, List, [], ◌∷◌, None, Ok, MatchBool, is_err}
use Rattle.chip.specs.Chains.{Exchange, IsExchange}
use Rattle.chip.specs.Meaning.{Meaning}
use Rattle.chip.specs.Runs.{Happens, refusal}
use Rattle.chip.specs.Sent.{Event, resetting}
use Rattle.port.specs.Plans.{Task, send, pulse}

-- an exchange of a frame, or a pulse on RESET# of so many clocks
pub data Act : Type 0 where
  exchanged : Exchange → Act
  pulsed : ℕ → Act

-- a chip came from c to d by a pulse that it took
pub record IsPulse {X : Type 0} (meaning : X → Meaning) (gives : X → Event → X → Type 0)
    (c : X) (n : ℕ) (d : X) : Type 0 where
  pub happens : Happens meaning gives c (resetting n (Ok tt)) d
  pub taken : refusal (meaning c) (resetting n (Ok tt)) ≡ None

abbrev pub IsAct : {X : Type 0} → (X → Meaning) → (X → Event → X → Type 0) → X → Act → X → Type 0
IsAct meaning gives c (exchanged x) d = IsExchange meaning gives c x d
IsAct meaning gives c (pulsed n) d = IsPulse meaning gives c n d

-- from one value to another by these acts, and nothing else
pub data Acts {X : Type 0} (meaning : X → Meaning) (gives : X → Event → X → Type 0) : X → List Act → X → Type 0 where
  done : {c : X} → Acts meaning gives c [] c
  next : {c d e : X} {act : Act} {rest : List Act} → IsAct meaning gives c act d → Acts meaning gives d rest e
      → Acts meaning gives c (act ∷ rest) e

-- ---- acts that follow a plan

abbrev pub task_of : Act → Task
task_of (exchanged x) = send x.frame
task_of (pulsed n) = pulse n

-- a frame to which no strobe came
abbrev pub is_lost : Act → Bool
is_lost (exchanged x) = is_err x.answer
is_lost (pulsed n) = false

abbrev pub any_lost : List Act → Bool
any_lost [] = false
any_lost (act ∷ rest) = is_lost act || any_lost rest

-- each act is the next task of the plan, up to its end, or up to an act that is lost and nothing after that
abbrev pub Follows : List Task → List Act → Type 0
Follows [] acts = acts ≡ []
Follows (task ∷ tasks) [] = ⊥
Follows (task ∷ tasks) (act ∷ rest) = (task_of act ≡ task) × MatchBool (is_lost act) (rest ≡ []) (Follows tasks rest)
