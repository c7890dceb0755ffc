-- What a frame that is taken does to a chip. Assumes nothing.
use Rattle.std.specs.Prelude.{◌≡◌, ℕ, zero, suc, ◌+◌, ◌<◌, Bool, true, false, if◌then◌else◌, not, ◌&&◌, List, length, Some, None, Ok, Err, MatchBool, Option, ◌==◌, slice_index}
use Rattle.std.specs.Option.{unwrap_or}
use Rattle.fault.specs.Refusals.{fault_at}
use Rattle.fault.specs.declared.Refusal.{Refusal}
use Rattle.fault.specs.declared.Refusal.TheVariants.{NoStrobe}
use Rattle.frame.specs.Bursts.{burst_address}
use Rattle.frame.specs.Low.{saturated}
use Rattle.frame.specs.declared.burst.Burst.{Burst}
use Rattle.frame.specs.declared.make.Make.{Make}
use Rattle.mask.specs.Masks.{masked}
use Rattle.register.specs.Registers.{on_wire}
use Rattle.register.specs.Table.{after_reset}
use Rattle.chip.specs.Free.{FreeByFrame, Allowed}
use Rattle.chip.specs.LowClocks.{low_for}
use Rattle.chip.specs.Meaning.{Meaning, size, refreshed, strobe_at, register_strobe, SameConfig}
use Rattle.chip.specs.Refused.{wakes, refused}
use Rattle.chip.specs.Sent.{Sent, read, write, register_read, register_write, global_reset, place, Answer}
use Rattle.chip.specs.declared.bus_frame.Reply.{Reply}
use Rattle.chip.specs.declared.bus_frame.Reply.TheVariants.{Done, Register}
use Rattle.chip.specs.declared.config.Config.{Config}
use Rattle.chip.specs.declared.state.Phase.TheVariants.{Awake}
use Rattle.chip.specs.declared.state.State.{State}

-- ---- registers and counts

-- what a register holds after wake or reset
abbrev pub reset_value : Make → ℕ → ℕ
reset_value make r = unwrap_or (after_reset make r) 0

-- what a register holds
abbrev pub register : Config → State → ℕ → ℕ
register k s r =
    if r == 0 then s.mr0 else (if r == 4 then s.mr4 else (if r == 8 then s.mr8 else reset_value k.make r))

-- a register is written
abbrev pub with_register : State → ℕ → ℕ → State
with_register s r v = record s {
  mr0 = if r == 0 then v else s.mr0;
  mr4 = if r == 4 then v else s.mr4;
  mr8 = if r == 8 then v else s.mr8;
}

-- the registers are those of the table, and tRST is due
abbrev pub with_reset_registers : Config → State → State
with_reset_registers k s = record s {
  mr0 = reset_value k.make 0;
  mr4 = reset_value k.make 4;
  mr8 = reset_value k.make 8;
  trst_due = true;
}

-- a frame of so many low clocks counts, and no wait is due any more
abbrev pub counted : State → ℕ → Bool → State
counted s low strobe = record s {
  strobe = strobe;
  trst_due = false;
  latest_low = low;
  frames = saturated (s.frames + 1);
  clocks = saturated (s.clocks + low);
}

-- a wake of so many low clocks: counting begins
abbrev pub woken : Config → State → ℕ → Bool → State
woken k s low strobe = record (with_reset_registers k s) {
  phase = Awake;
  strobe = strobe;
  latest_low = low;
  frames = 0;
  clocks = 0;
}

-- the state after a frame of so many low clocks
abbrev pub ended : Config → State → Sent → ℕ → Bool → State
ended k s (register_write r v) low strobe = counted (with_register s r v) low strobe
ended k s global_reset low strobe = woken k s low strobe
ended k s _ low strobe = counted s low strobe

-- the state after a frame that is taken
abbrev pub after : Config → State → Sent → FreeByFrame → State
after k s f free = ended k s f (low_for k s f free.latency) free.strobe

-- ---- bytes

-- byte i of a burst, as it is on the wire
abbrev pub address : Config → State → Burst → ℕ → ℕ → ℕ
address k s b a i = burst_address k.make (on_wire b s.mr8) a i

-- what an address holds after the first n bytes of a write: the last unmasked byte that came to it, else what it held
abbrev pub written : (ℕ → ℕ) → List ℕ → List ℕ → ℕ → ℕ → ℕ → ℕ
written to d mask zero a old = old
written to d mask (suc i) a old =
    if to i == a && not (masked mask i) then slice_index d i else written to d mask i a old

-- what an address holds after a frame over which it is retained
abbrev pub stored : Config → State → Sent → ℕ → ℕ → ℕ
stored k s (write b a d mask) x old = written (address k s b a) d mask (length d) x old
stored k s _ x old = old

-- a byte is retained over the frame: refreshed before and after it, with the strobe there; none is over wake
abbrev pub is_retained : Meaning → Meaning → Sent → ℕ → Bool
is_retained m n f x = not (wakes f) && (strobe_at n x && (refreshed m x && refreshed n x))

-- ---- the answer and the buffer

-- whether a frame that is taken is answered, by the chip after it; if not, it is 19. A read needs the strobe at the
-- address that it starts from (one strobe serves all addresses), a register read needs its own, other frames need none
abbrev pub is_answered : Meaning → Sent → Bool
is_answered n (read b a c) = strobe_at n a
is_answered n (register_read r) = register_strobe n
is_answered n _ = true

-- the answer to a frame that is answered: a register, where one is read
abbrev pub reply : Config → State → Sent → Reply
reply k s (register_read r) = Register (register k s r)
reply k s _ = Done

-- what comes back, by whether the frame is answered
abbrev pub answer_by : Config → State → Bool → Sent → Answer
answer_by k s there f = if there then Ok (reply k s f) else Err (fault_at (NoStrobe 0) (place f))

-- the bytes of a burst, as they are after the frame
pub record Fills (k : Config) (s : State) (b : Burst) (a n : ℕ) (byte : ℕ → ℕ) (old new : List ℕ) : Type 0 where
  pub long : length new ≡ length old
  pub each : (i : ℕ) → i < n → slice_index new i ≡ byte (address k s b a i)

-- the buffer: a read that is answered fills it
abbrev pub Filled : Config → State → Bool → Sent → (ℕ → ℕ) → List ℕ → List ℕ → Type 0
Filled k s there (read b a n) byte old new = MatchBool there (Fills k s b a n byte old new) (new ≡ old)
Filled k s there _ byte old new = new ≡ old

-- ---- the frame

-- the byte at an address after a frame that is taken
abbrev pub byte_after : Meaning → Meaning → Sent → FreeByFrame → ℕ → ℕ
byte_after m n f free a =
    if is_retained m n f a then stored m.config m.state f a (m.byte a) else free.byte a

-- what a frame that is taken does
pub record Taken (m : Meaning) (f : Sent) (free : FreeByFrame) (old : List ℕ) (r : Answer) (n : Meaning)
    (new : List ℕ) : Type 0 where
  pub allowed : Allowed m.state free
  pub same : SameConfig m n
  pub state : n.state ≡ after m.config m.state f free
  pub bytes : (a : ℕ) → a < size m.config → n.byte a ≡ byte_after m n f free a
  pub answer : r ≡ answer_by m.config m.state (is_answered n f) f
  pub buffer : Filled m.config m.state (is_answered n f) f n.byte old new

-- a frame sent after a gap: refused with nothing changed, or taken
abbrev pub Judged : Option Refusal → Meaning → Sent → List ℕ → Answer → Meaning → List ℕ → Type 0
Judged (Some e) m f old r n new = (r ≡ Err (fault_at e (place f))) × (n ≡ m) × (new ≡ old)
Judged None m f old r n new = (free : FreeByFrame) × Taken m f free old r n new

pub record Sends (m : Meaning) (gap : ℕ) (f : Sent) (old : List ℕ) (r : Answer) (n : Meaning)
    (new : List ℕ) : Type 0 where
  pub judged : Judged (refused m.config m.state gap f) m f old r n new
