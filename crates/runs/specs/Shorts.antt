-- Every frame is short, they are as few as can be, and the chip counts them. Assumes nothing.
use Rattle.std.specs.Prelude.{◌≡◌, ℕ, ◌≤◌, ◌↔◌, ◌⊎◌, List, [], ◌++◌, length, drop, sum_by, IfSome, OnOk, All}
use Rattle.std.specs.List.{flat_map}
use Rattle.chip.specs.Meaning.{Meaning, most_low}
use Rattle.chip.specs.Runs.{RisesBy}
use Rattle.chip.specs.Sent.{Event}
use Rattle.chip.specs.declared.config.Config.{Config}
use Rattle.clock.specs.Made.{LastsAtMost}
use Rattle.clock.specs.Times.{tcem_ns}
use Rattle.frame.specs.Low.{saturated}
use Rattle.frame.specs.Pages.{page}
use Rattle.split.specs.Directions.{limit, latency}
use Rattle.split.specs.Splits.{fits, IsLawful, rounded_from, rounded_to}
use Rattle.split.specs.declared.direction.Direction.{Direction}
use Rattle.split.specs.declared.direction.Direction.TheVariants.{Read, Write}
use Rattle.port.specs.Acts.{Act}
use Rattle.port.specs.Answers.{frames_in, low_in}
use Rattle.port.specs.Requests.{Request, read, write, fill, latency_type, coverage, register, reset}
use Rattle.port.specs.Serves.{Woken, Transaction}
use Rattle.port.specs.Wakes.{Wakes}
use Rattle.runs.specs.Histories.{History, refusal_number}

-- all that was done by these transactions
abbrev pub acts_of : List Transaction → List Act
acts_of ts = flat_map (λ t. t.acts) ts

-- a frame of so many low clocks keeps tCEM, in clocks and in time
pub record IsShort (k : Config) (low : ℕ) : Type 0 where
  pub clocks : low ≤ most_low k
  pub lasts : LastsAtMost low k.clock.khz (tcem_ns k.clock.range)

-- a lawful split of n bytes from a: pieces of these lengths, one after the other
abbrev pub IsSplit : Direction → Config → ℕ → ℕ → List ℕ → Type 0
IsSplit d k a n lengths =
    IsLawful (fits (page k.make) (limit d k.clock.tcem (latency d k.clock.lc k.clock.wl)))
    (rounded_from a) (rounded_to a n) lengths

-- a read or a write took at most as many frames as any lawful split of it has pieces
abbrev pub IsFewest : Config → Request → ℕ → Type 0
IsFewest k (read a n) frames = (lengths : List ℕ) → IsSplit Read k a n lengths → frames ≤ length lengths
IsFewest k (write a d mask) frames =
    (lengths : List ℕ) → IsSplit Write k a (length d) lengths → frames ≤ length lengths
IsFewest k (fill a n) frames = Unit {0}
IsFewest k (latency_type v) frames = Unit {0}
IsFewest k (coverage v) frames = Unit {0}
IsFewest k (register v) frames = Unit {0}
IsFewest k reset frames = Unit {0}

-- so many pieces are a lawful split of a read or a write
abbrev pub IsSplitInto : Config → Request → ℕ → Type 0
IsSplitInto k (read a n) frames = (lengths : List ℕ) × (IsSplit Read k a n lengths × (length lengths ≡ frames))
IsSplitInto k (write a d mask) frames =
    (lengths : List ℕ) × (IsSplit Write k a (length d) lengths × (length lengths ≡ frames))
IsSplitInto k (fill a n) frames = Unit {0}
IsSplitInto k (latency_type v) frames = Unit {0}
IsSplitInto k (coverage v) frames = Unit {0}
IsSplitInto k (register v) frames = Unit {0}
IsSplitInto k reset frames = Unit {0}

-- what is not answered is refused by 6 to 12, before any frame, or by 19
abbrev pub IsForeseen : Transaction → Type 0
IsForeseen t = IfSome (refusal_number t.answer) (λ k. ((6 ≤ k) × (k ≤ 12) × (t.acts ≡ [])) ⊎ (k ≡ 19))

-- of all that was done from the wake frame on, and of each transaction
pub record AreShortAndFew (m : Meaning) (woke : List Act) (o : Meaning) (ts : List Transaction)
    (n : Meaning) : Type 0 where
  -- each frame, those of wake and lost ones too
  pub short : All (λ act. IsShort m.config (low_in act)) (woke ++ acts_of ts)
  -- low clocks last at most tCEM exactly where they are at most those that fit whole into it
  pub exactly : (low : ℕ)
      → (low ≤ most_low m.config) ↔ LastsAtMost low m.config.clock.khz (tcem_ns m.config.clock.range)
  -- the chip's counts rise by their number and their low clocks, until they are saturated
  pub counted : RisesBy o (sum_by frames_in (acts_of ts)) (sum_by low_in (acts_of ts)) n
  -- they are those of all frames behind the wake frame
  pub since_wake : n.state.frames ≡ saturated (sum_by frames_in (drop 1 woke ++ acts_of ts))
  pub low_since_wake : n.state.clocks ≡ saturated (sum_by low_in (drop 1 woke ++ acts_of ts))
  -- the calls report just these frames and low clocks
  pub frames : sum_by (λ t. t.traffic.frames) ts ≡ sum_by frames_in (acts_of ts)
  pub clocks : sum_by (λ t. t.traffic.clocks) ts ≡ sum_by low_in (acts_of ts)
  -- no lawful split of a read or a write has fewer pieces
  pub few : All (λ t. IsFewest m.config t.request t.traffic.frames) ts
  -- and one that is answered took as many as a lawful split has
  pub lawful : All (λ t. OnOk t.answer (IsSplitInto m.config t.request t.traffic.frames)) ts
  -- the port foresees what the chip would refuse
  pub foreseen : All IsForeseen ts

abbrev pub ShortAndFew : {X : Type 0} → (X → Meaning) → (X → Event → X → Type 0) → Type 0
ShortAndFew {X} meaning gives =
    (c : X) (woke : List Act) (p q : Woken X) (ts : List Transaction)
    → Wakes meaning gives c woke p → History meaning gives p ts q
    → AreShortAndFew (meaning c) woke (meaning p.chip) ts (meaning q.chip)
