-- Whole runs of a chip, frames and resets one after another, and the laws of every run. Assumes nothing.
use Rattle.std.specs.Prelude.{◌≡◌, ℕ, ◌+◌, ◌^◌, ◌<◌, ◌≤◌, true, false, List, [], ◌∷◌, length, Some, None, Ok, Err, Option, Result}
use Rattle.fault.specs.Refusals.{details, fault_at}
use Rattle.fault.specs.declared.Fault.{Fault}
use Rattle.fault.specs.declared.Refusal.{Refusal}
use Rattle.frame.specs.Low.{saturated}
use Rattle.mask.specs.Masks.{masked}
use Rattle.chip.specs.Meaning.{Meaning, size, refreshed, strobe_at, register_strobe, SameConfig}
use Rattle.chip.specs.Refused.{wakes, refused}
use Rattle.chip.specs.Resets.{reset_refused, Resets}
use Rattle.chip.specs.Sent.{Sent, write, place, Event, sending, resetting}
use Rattle.chip.specs.Taken.{address, Sends}

-- ---- events

-- what an event does to a chip
abbrev pub Does : Meaning → Event → Meaning → Type 0
Does m (sending gap f old r new) n = Sends m gap f old r n new
Does m (resetting pulse r) n = Resets m pulse r n

-- an event, by the chip's own relation and by what it means
pub record Happens {X : Type 0} (meaning : X → Meaning) (gives : X → Event → X → Type 0)
    (c : X) (e : Event) (d : X) : Type 0 where
  pub own : gives c e d
  pub does : Does (meaning c) e (meaning d)

-- by what an event is refused, if it is; else it is taken
abbrev pub refusal : Meaning → Event → Option Refusal
refusal m (sending gap f old r new) = refused m.config m.state gap f
refusal m (resetting pulse r) = reset_refused m.config m.state pulse

-- the event is a reset that is taken
abbrev pub IsRestart : Meaning → Event → Type 0
IsRestart m (sending gap f old r new) = ⊥
IsRestart m (resetting pulse r) = refusal m (resetting pulse r) ≡ None

-- the event is a global reset that is taken
abbrev pub IsWake : Meaning → Event → Type 0
IsWake m (sending gap f old r new) = (refusal m (sending gap f old r new) ≡ None) × (wakes f ≡ true)
IsWake m (resetting pulse r) = ⊥

-- ---- runs

-- an event, and the chip after it
pub record Step : Type 0 where
  pub event : Event
  pub after : Meaning

-- from one meaning, by these steps, to another
pub data Runs : Meaning → List Step → Meaning → Type 0 where
  still : {m : Meaning} → Runs m [] m
  onward : {m n : Meaning} {s : Step} {rest : List Step} → Does m s.event s.after → Runs s.after rest n
      → Runs m (s ∷ rest) n

-- true of each step: of the chip before it, the event and the chip after it
abbrev pub Each : (Meaning → Event → Meaning → Type 0) → Meaning → List Step → Type 0
Each P m [] = Unit {0}
Each P m (s ∷ rest) = P m s.event s.after × Each P s.after rest

-- added up over the steps
abbrev pub total : (Meaning → Event → Meaning → ℕ) → Meaning → List Step → ℕ
total count m [] = 0
total count m (s ∷ rest) = count m s.event s.after + total count s.after rest

-- ---- a byte changes by writes only

-- a read of a comes with the strobe, and the coverage that the chip has refreshes a
pub record IsSafe (m : Meaning) (a : ℕ) : Type 0 where
  pub strobe : strobe_at m a ≡ true
  pub covered : refreshed m a ≡ true

-- a byte of the frame that is not masked lies at a, in the burst that is on the wire
abbrev pub Reaches : Meaning → Sent → ℕ → Type 0
Reaches m (write b s d mask) a =
    (i : ℕ) × (i < length d) × (masked mask i ≡ false) × (address m.config m.state b s i ≡ a)
Reaches m _ a = ⊥

-- the event is a write of a that is taken
abbrev pub Writes : ℕ → Meaning → Event → Type 0
Writes a m (sending gap f old r new) = (refusal m (sending gap f old r new) ≡ None) × Reaches m f a
Writes a m (resetting pulse r) = ⊥

-- an event that does nothing to the byte at a: a is safe before and after, and there is no wake, no restart and no write of a
pub record Spares (a : ℕ) (m : Meaning) (e : Event) (n : Meaning) : Type 0 where
  pub before : IsSafe m a
  pub after : IsSafe n a
  pub no_wake : IsWake m e → ⊥
  pub no_restart : IsRestart m e → ⊥
  pub no_write : Writes a m e → ⊥

-- a byte that each event of a run spares is at the end what it was at the beginning
abbrev pub ChangedByWritesOnly : Type 0
ChangedByWritesOnly =
    (m n : Meaning) (steps : List Step) (a : ℕ) → Runs m steps n → a < size m.config
    → Each (Spares a) m steps → n.byte a ≡ m.byte a

-- ---- the counts rise by what was sent

-- nothing of what is refused
abbrev pub unless_refused : Option Refusal → ℕ → ℕ
unless_refused (Some e) n = 0
unless_refused None n = n

-- the frames of an event: one that is taken, a lost read too
abbrev pub frames_in : Meaning → Event → Meaning → ℕ
frames_in m (sending gap f old r new) n = unless_refused (refusal m (sending gap f old r new)) 1
frames_in m (resetting pulse r) n = 0

-- their low clocks: the latest ones, right after the frame
abbrev pub clocks_in : Meaning → Event → Meaning → ℕ
clocks_in m (sending gap f old r new) n =
    unless_refused (refusal m (sending gap f old r new)) n.state.latest_low
clocks_in m (resetting pulse r) n = 0

-- the two counts are in 64 bits
pub record CountsFit (m : Meaning) : Type 0 where
  pub frames : m.state.frames < 2 ^ 64
  pub clocks : m.state.clocks < 2 ^ 64

-- the two counts are higher by so many frames and so many low clocks, and stay at 2 ^ 64 - 1
pub record RisesBy (m : Meaning) (more low : ℕ) (n : Meaning) : Type 0 where
  pub frames : n.state.frames ≡ saturated (m.state.frames + more)
  pub clocks : n.state.clocks ≡ saturated (m.state.clocks + low)

-- over a run without a wake
abbrev pub CountsRiseByWhatWasSent : Type 0
CountsRiseByWhatWasSent =
    (m n : Meaning) (steps : List Step) → Runs m steps n → CountsFit m
    → Each (λ p e q. IsWake p e → ⊥) m steps
    → RisesBy m (total frames_in m steps) (total clocks_in m steps) n

-- ---- what is refused leaves everything

-- the fault of an event, if it has one
abbrev pub err : {A : Type 0} → Result A (Fault ℕ) → Option (Fault ℕ)
err (Ok x) = None
err (Err e) = Some e

abbrev pub fault_of : Event → Option (Fault ℕ)
fault_of (sending gap f old r new) = err r
fault_of (resetting pulse r) = err r

abbrev pub place_of : Event → ℕ
place_of (sending gap f old r new) = place f
place_of (resetting pulse r) = 0

-- the buffer is as it was
abbrev pub BufferStays : Event → Type 0
BufferStays (sending gap f old r new) = new ≡ old
BufferStays (resetting pulse r) = Unit {0}

-- a refused event answers its refusal, with its place, and this is one of 13 to 18
pub record AnswersRefusal (e : Event) (x : Refusal) : Type 0 where
  pub fault : fault_of e ≡ Some (fault_at x (place_of e))
  pub least : 13 ≤ (details x).number
  pub most : (details x).number ≤ 18

-- a refused event leaves everything; so does whatever answers one of 13 to 18
pub record RefusedLeaves (m : Meaning) (e : Event) (n : Meaning) : Type 0 where
  pub answer : (x : Refusal) → refusal m e ≡ Some x → AnswersRefusal e x
  pub by_test : (x : Refusal) → refusal m e ≡ Some x → (n ≡ m) × BufferStays e
  pub by_answer : (x : Fault ℕ) → fault_of e ≡ Some x → (details x.refusal).number ≤ 18 → (n ≡ m) × BufferStays e

-- of each event of every run
abbrev pub RefusedLeavesEverything : Type 0
RefusedLeavesEverything = (m n : Meaning) (steps : List Step) → Runs m steps n → Each RefusedLeaves m steps

-- ---- the strobe returns by a reset alone

-- where the strobe is gone before, it is gone after
pub record StrobeStaysAway (m n : Meaning) : Type 0 where
  pub memory : (a : ℕ) → strobe_at m a ≡ false → strobe_at n a ≡ false
  pub registers : register_strobe m ≡ false → register_strobe n ≡ false

-- over a run without a restart; a wake does not bring it back
abbrev pub StrobeReturnsByResetAlone : Type 0
StrobeReturnsByResetAlone =
    (m n : Meaning) (steps : List Step) → Runs m steps n
    → Each (λ p e q. IsRestart p e → ⊥) m steps → StrobeStaysAway m n

-- ---- make, size, clock numbers and coverages never change

abbrev pub ConfigNeverChanges : Type 0
ConfigNeverChanges = (m n : Meaning) (steps : List Step) → Runs m steps n → SameConfig m n
