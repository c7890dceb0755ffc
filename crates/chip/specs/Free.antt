-- What a frame that is taken, and a reset, leave free. Assumes nothing.
use Rattle.std.specs.Prelude.{◌≡◌, ℕ, ◌*◌, ◌≤◌, Bool, true, false, not, ◌||◌}
use Rattle.clock.specs.Times.{clocks}
use Rattle.register.specs.Registers.{mr0}
use Rattle.register.specs.declared.fields.LatencyType.{LatencyType}
use Rattle.register.specs.declared.fields.LatencyType.TheVariants.{Variable, Fixed}
use Rattle.chip.specs.Meaning.{read_latency}
use Rattle.chip.specs.declared.state.State.{State}

pub record FreeByFrame : Type 0 where
  -- the strobe is there once the frame has started
  pub strobe : Bool
  -- the latency, of a memory read
  pub latency : ℕ
  -- the bytes that are not retained
  pub byte : ℕ → ℕ

abbrev pub is_fixed : LatencyType → Bool
is_fixed Variable = false
is_fixed Fixed = true

-- 2 LC in the fixed type or without the strobe, else LC to 2 LC
pub record LatencyAllowed (s : State) (strobe : Bool) (l : ℕ) : Type 0 where
  pub least : clocks (read_latency s) ≤ l
  pub most : l ≤ 2 * clocks (read_latency s)
  pub full : (is_fixed (mr0 s.mr0).latency_type || not strobe) ≡ true → l ≡ 2 * clocks (read_latency s)

-- the strobe and the latency that a frame may have
pub record Allowed (s : State) (free : FreeByFrame) : Type 0 where
  -- no frame brings the strobe back
  pub strobe : free.strobe ≡ true → s.strobe ≡ true
  pub latency : LatencyAllowed s free.strobe free.latency

-- what a reset leaves free: whether the strobe is there after it, and every byte
pub record FreeByReset : Type 0 where
  pub strobe : Bool
  pub byte : ℕ → ℕ
