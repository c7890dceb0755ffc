-- Which clocks are refused, and what the clock numbers promise. Assumes nothing.
use Rattle.std.specs.Prelude.{◌≡◌, ℕ, ◌+◌, ◌*◌, ◌/◌, ◌<◌, ◌≤◌, if◌then◌else◌, ◌||◌, Some, None, Option, ◌==◌, nat_lt}
use Rattle.fault.specs.declared.Refusal.{Refusal}
use Rattle.fault.specs.declared.Refusal.TheVariants.{ClockOutOfRange, ClockTooSlow}
use Rattle.clock.specs.Times.{tcem_ns, whole, latency, least_tcem}
use Rattle.clock.specs.declared.range.TemperatureRange.{TemperatureRange}
use Rattle.clock.specs.declared.numbers.Clock.{Clock}

-- the clock is 0 or above 133,000 kHz, then: CE# may be low for less than 35 + 2 LC clocks
abbrev pub refused : ℕ → TemperatureRange → Option Refusal
refused khz range =
    if khz == 0 || nat_lt 133000 khz then Some ClockOutOfRange
    else if nat_lt (whole (tcem_ns range) khz) (least_tcem (latency khz)) then Some ClockTooSlow
    else None

-- the numbers of this clock and range: the type has the rest
pub record IsClockFor (khz : ℕ) (range : TemperatureRange) (clock : Clock) : Type 0 where
  pub khz_is : clock.khz ≡ khz
  pub range_is : clock.range ≡ range

-- n clocks at khz last n * 1000000 / khz nanoseconds: at most ns
abbrev pub LastsAtMost : ℕ → ℕ → ℕ → Type 0
LastsAtMost n khz ns = n * 1000000 ≤ ns * khz

-- a period in picoseconds, to the nearest, a half up
abbrev pub period : ℕ → ℕ
period khz = (2 * 1000000000 + khz) / (2 * khz)

-- no picosecond is nearer to 1000000000 / khz, and of two as near p is the larger
pub record IsNearest (khz p : ℕ) : Type 0 where
  pub not_late : 2 * (khz * p) ≤ 2 * 1000000000 + khz
  pub not_early : 2 * 1000000000 < 2 * (khz * p) + khz
