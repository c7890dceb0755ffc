-- What sets the two directions apart: their latencies. Assumes nothing.
use Rattle.std.specs.Prelude.{ℕ, ◌-◌, ◌*◌}
use Rattle.clock.specs.Times.{clocks}
use Rattle.clock.specs.declared.range.Latency.{Latency}
use Rattle.frame.specs.declared.low.Transfer.{Transfer}
use Rattle.frame.specs.declared.low.Transfer.TheVariants as transfer
use Rattle.split.specs.declared.direction.Direction.{Direction}
use Rattle.split.specs.declared.direction.Direction.TheVariants.{Read, Write}

-- the latency of a direction, of the two that a clock needs
abbrev pub latency : Direction → Latency → Latency → Latency
latency Read lc wl = lc
latency Write lc wl = wl

-- the most clocks that a frame waits: a read may take 2 LC
abbrev pub most_clocks : Direction → Latency → ℕ
most_clocks Read lc = 2 * clocks lc
most_clocks Write wl = clocks wl

-- the most bytes of one frame: CE# is low for 3 clocks, the latency, and a clock for each two bytes
abbrev pub limit : Direction → ℕ → Latency → ℕ
limit d tcem l = 2 * (tcem - 3 - most_clocks d l)

-- the frame of n bytes with the most clocks that it may wait
abbrev pub longest_frame : Direction → Latency → ℕ → Transfer
longest_frame Read lc n = transfer.Read (2 * clocks lc) n
longest_frame Write wl n = transfer.Write wl n
