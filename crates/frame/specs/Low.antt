-- How many clocks CE# is low. Assumes nothing.
use Rattle.std.specs.Prelude.{ℕ, ◌+◌, ◌-◌, ◌/◌, ◌^◌, min, List, sum_by}
use Rattle.clock.specs.Times.{clocks}
use Rattle.frame.specs.declared.low.Transfer.{Transfer}
use Rattle.frame.specs.declared.low.Transfer.TheVariants.{Read, Write, RegisterRead, RegisterWrite, GlobalReset}

-- two bytes a clock
abbrev pub data_clocks : ℕ → ℕ
data_clocks n = (n + 1) / 2

-- three clocks for the opening bytes, the latency, the data: a register takes one; its write has a latency of 1
abbrev pub low_clocks : Transfer → ℕ
low_clocks (Read latency n) = 3 + latency + data_clocks n
low_clocks (Write latency n) = 3 + clocks latency + data_clocks n
low_clocks (RegisterRead latency) = 3 + clocks latency + 1
low_clocks RegisterWrite = 3 + 1 + 1
low_clocks GlobalReset = 4

abbrev pub low_clocks_of : List Transfer → ℕ
low_clocks_of frames = sum_by low_clocks frames

-- a count that stays where it is at 2 ^ 64 - 1
abbrev pub saturated : ℕ → ℕ
saturated n = min n (2 ^ 64 - 1)
