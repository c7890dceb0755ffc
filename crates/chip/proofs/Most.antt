-- The most clocks that CE# may be low, and the least latency.
use Rattle.std.proofs.Common.{ℕ, ◌≤◌, arith}
use Rattle.clock.specs.Times.{clocks, tcem_ns, whole}
use Rattle.clock.specs.declared.numbers.Clock.{Clock}
use Rattle.clock.specs.declared.range.Latency.{Latency}
use Rattle.clock.specs.declared.range.Latency.TheVariants.{Three, Four, Five}
use Rattle.clock.specs.declared.range.TemperatureRange.{TemperatureRange}
use Rattle.clock.specs.declared.range.TemperatureRange.TheVariants.{Normal, Extended}
use Rattle.chip.specs.Sizes.{most_clocks}

most_in : (range : TemperatureRange) (khz : ℕ) → khz ≤ 133000 → whole (tcem_ns range) khz ≤ most_clocks
most_in Normal khz h = omega arith
most_in Extended khz h = omega arith

-- CE# is never low for longer than 532 clocks
pub tcem_most : (k : Clock) → k.tcem ≤ most_clocks
tcem_most k = omega (arith, k.low, most_in k.range k.khz k.capped)

-- no latency is below 3
pub least_latency : (l : Latency) → 3 ≤ clocks l
least_latency Three = omega arith
least_latency Four = omega arith
least_latency Five = omega arith
