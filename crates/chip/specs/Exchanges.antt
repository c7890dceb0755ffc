-- What one event comes to, as a step of a run and of a chain. Assumes nothing.
use Rattle.std.specs.Prelude.{◌≡◌, ℕ, ◌<◌, if◌then◌else◌, List, [], ◌∷◌, ◌++◌, length, None, Ok, Err, ◌==◌}
use Rattle.fault.specs.Refusals.{details}
use Rattle.chip.specs.Chains.{Exchange, event_of, IsExchange, Chain}
use Rattle.chip.specs.Meaning.{Meaning, size}
use Rattle.chip.specs.Refused.{least_gap}
use Rattle.chip.specs.Runs.{Does, refusal, IsRestart, IsWake, Step, Runs, Spares, frames_in, clocks_in, CountsFit, RisesBy, RefusedLeaves, StrobeStaysAway}
use Rattle.chip.specs.Sent.{Event, sent, Answer}
use Rattle.chip.specs.declared.bus_frame.Frame.{Frame}

-- the least gap before the next frame of a chip
abbrev pub least_gap_of : Meaning → ℕ
least_gap_of m = least_gap m.config m.state

-- the low clocks of a frame, by its answer: one with a 19 was sent, and one with another fault was refused
abbrev pub low_by_answer : Answer → ℕ → ℕ
low_by_answer (Ok x) latest = latest
low_by_answer (Err e) latest = if (details e.refusal).number == 19 then latest else 0

-- an event with so many low clocks
pub record IsRunStep (m : Meaning) (e : Event) (low : ℕ) (n : Meaning) : Type 0 where
  pub does : Does m e n
  -- the low clocks are those of a frame that was taken, else 0
  pub clocks : low ≡ clocks_in m e n
  -- the counts rise by them
  pub counts : (IsWake m e → ⊥) → RisesBy m (frames_in m e n) low n
  -- and are in 64 bits
  pub fit : CountsFit n
  -- a byte that is spared stays
  pub bytes : (a : ℕ) → a < size m.config → Spares a m e n → n.byte a ≡ m.byte a
  -- a refused event leaves everything
  pub refused : RefusedLeaves m e n
  -- the strobe returns by a reset alone
  pub strobe : (IsRestart m e → ⊥) → StrobeStaysAway m n
  -- a run up to here goes on by this step
  pub goes_on : (start : Meaning) (steps : List Step) → Runs start steps m
      → Runs start (steps ++ record { event = e; after = n } ∷ []) n

-- one call of `send`, as an exchange
abbrev pub exchange_of : ℕ → Frame → List ℕ → Answer → List ℕ → ℕ → Exchange
exchange_of gap f old r new low = record {
  gap = gap;
  frame = sent f (length old);
  before = old;
  answer = r;
  after = new;
  low = low;
}

-- where it comes after the least gap and is taken, it is an exchange of a chain: a chain up to here goes on by it
pub record LengthensChains {X : Type 0} (meaning : X → Meaning) (gives : X → Event → X → Type 0)
    (c : X) (x : Exchange) (d : X) : Type 0 where
  pub is_exchange : x.gap ≡ least_gap_of (meaning c) → refusal (meaning c) (event_of x) ≡ None
      → IsExchange meaning gives c x d
  pub lengthens : x.gap ≡ least_gap_of (meaning c) → refusal (meaning c) (event_of x) ≡ None
      → (start : X) (xs : List Exchange) → Chain meaning gives start xs c
      → Chain meaning gives start (xs ++ x ∷ []) d
