-- What refuses a frame. Assumes nothing.
use Rattle.std.specs.Prelude.{ℕ, ◌-◌, ◌*◌, ◌%◌, max, Bool, true, false, if◌then◌else◌, not, ◌||◌, List, [], ◌∷◌, length, Some, None, Option, ◌==◌, nat_le, nat_lt}
use Rattle.clock.specs.Times.{clocks}
use Rattle.fault.specs.declared.Refusal.{Refusal}
use Rattle.fault.specs.declared.Refusal.TheVariants.{WrongPhase, TooSoon, BadStart, BadCount, TooLong, BadRegister}
use Rattle.mask.specs.Masks.{size as mask_size}
use Rattle.register.specs.Registers.{readable, accepts}
use Rattle.chip.specs.LowClocks.{low_for}
use Rattle.chip.specs.Meaning.{size, most_low, read_latency}
use Rattle.chip.specs.Sent.{Sent, read, write, register_read, register_write, global_reset}
use Rattle.chip.specs.declared.config.Config.{Config}
use Rattle.chip.specs.declared.state.Phase.{Phase}
use Rattle.chip.specs.declared.state.Phase.TheVariants.{Unwoken, Awake}
use Rattle.chip.specs.declared.state.State.{State}

-- the frame that wakes a chip
abbrev pub wakes : Sent → Bool
wakes global_reset = true
wakes _ = false

-- unwoken, a chip takes only a global reset; awake, everything else
abbrev pub takes : Phase → Bool → Bool
takes Unwoken waking = waking
takes Awake waking = not waking

-- the wait before a frame that a phase adds: tPU before wake
abbrev pub power_up : Config → Phase → ℕ
power_up k Unwoken = k.clock.tpu
power_up k Awake = 0

-- the wait that is due: tRST after wake or reset, tPU before wake
abbrev pub wait_due : Config → State → ℕ
wait_due k s = max (if s.trst_due then k.clock.trst else 0) (power_up k s.phase)

-- the least gap before a frame: tCPH, tRC less the latest low clocks, and the wait that is due
abbrev pub least_gap : Config → State → ℕ
least_gap k s = max (max k.clock.tcph (k.clock.trc - s.latest_low)) (wait_due k s)

-- an odd start, or one at or past the size
abbrev pub is_bad_start : Config → ℕ → Bool
is_bad_start k a = a % 2 == 1 || nat_le (size k) a

abbrev pub bad_start : Config → Sent → Bool
bad_start k (read b a n) = is_bad_start k a
bad_start k (write b a d mask) = is_bad_start k a
bad_start k _ = false

-- no bytes, or a write of an odd number of bytes or unlike its mask
abbrev pub bad_count : Sent → Bool
bad_count (read b a n) = n == 0
bad_count (write b a d mask) = length d == 0 || (length d % 2 == 1 || not (length mask == mask_size (length d)))
bad_count _ = false

-- the low clocks exceed tCEM, a memory read counted with 2 LC in either latency type
abbrev pub too_long : Config → State → Sent → Bool
too_long k s f = nat_lt (most_low k) (low_for k s f (2 * clocks (read_latency s)))

-- a register that cannot be read, or written with this value
abbrev pub bad_register : Sent → Bool
bad_register (register_read r) = not (readable r)
bad_register (register_write r v) = not (accepts r v)
bad_register _ = false

-- the refusal of the first test that holds
unfoldable pub first_refusal : List (Bool × Refusal) → Option Refusal
first_refusal [] = None
first_refusal ((test, refusal) ∷ rest) = if test then Some refusal else first_refusal rest

-- 14 to 18, in this order
abbrev pub tests : Config → State → ℕ → Sent → List (Bool × Refusal)
tests k s gap f =
    (nat_lt gap (least_gap k s), TooSoon)
    ∷ (bad_start k f, BadStart)
    ∷ (bad_count f, BadCount)
    ∷ (too_long k s f, TooLong)
    ∷ (bad_register f, BadRegister)
    ∷ []

-- what refuses a frame that the phase takes
abbrev pub unfit : Config → State → ℕ → Sent → Option Refusal
unfit k s gap f = first_refusal (tests k s gap f)

-- 13 to 18, in this order
abbrev pub refused : Config → State → ℕ → Sent → Option Refusal
refused k s gap f = first_refusal ((not (takes s.phase (wakes f)), WrongPhase) ∷ tests k s gap f)
