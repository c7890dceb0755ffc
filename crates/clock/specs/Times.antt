-- Times of the data sheet in nanoseconds, and how many clocks they are. Assumes nothing.
use Rattle.std.specs.Prelude.{ℕ, ◌+◌, ◌*◌, ◌/◌, if◌then◌else◌, nat_le, List, [], ◌∷◌}
use Rattle.clock.specs.declared.range.Latency.{Latency}
use Rattle.clock.specs.declared.range.Latency.TheVariants.{Three, Four, Five}
use Rattle.clock.specs.declared.range.TemperatureRange.{TemperatureRange}
use Rattle.clock.specs.declared.range.TemperatureRange.TheVariants.{Normal, Extended}

-- tCEM: the longest that CE# may be low
abbrev pub tcem_ns : TemperatureRange → ℕ
tcem_ns Normal = 4000
tcem_ns Extended = 1000

-- tCPH: CE# high between frames
abbrev pub tcph_ns : ℕ
tcph_ns = 18

-- tRC: from the start of one frame to the start of the next
abbrev pub trc_ns : ℕ
trc_ns = 60

-- tRST: the wait after wake or reset
abbrev pub trst_ns : ℕ
trst_ns = 2000

-- tPU: the wait before wake
abbrev pub tpu_ns : ℕ
tpu_ns = 150000

-- tRP: the reset pulse
abbrev pub trp_ns : ℕ
trp_ns = 1000

-- the clocks that fit whole into a time, and the clocks that a time takes up, the last perhaps in part
abbrev pub whole : ℕ → ℕ → ℕ
whole ns khz = ns * khz / 1000000

abbrev pub started : ℕ → ℕ → ℕ
started ns khz = (ns * khz + 999999) / 1000000

abbrev pub latencies : List Latency
latencies = Three ∷ Four ∷ Five ∷ []

-- the latency, of reads and of writes, that a clock needs: 3 up to 66 MHz, 4 up to 109 MHz, else 5
abbrev pub latency : ℕ → Latency
latency khz = if nat_le khz 66000 then Three else if nat_le khz 109000 then Four else Five

abbrev pub clocks : Latency → ℕ
clocks Three = 3
clocks Four = 4
clocks Five = 5

-- the least that tCEM has to be in clocks
abbrev pub least_tcem : Latency → ℕ
least_tcem lc = 35 + 2 * clocks lc
