-- The strobe and the latency that a model gives the next frame. Assumes nothing.
use Rattle.std.specs.Prelude.{ℕ, ◌*◌, ◌/◌, ◌%◌, ◌^◌, Bool, if◌then◌else◌, not, ◌&&◌, ◌||◌, ◌==◌, nat_lt}
use Rattle.clock.specs.Times.{clocks}
use Rattle.register.specs.Registers.{mr0}
use Rattle.chip.specs.Free.{is_fixed}
use Rattle.chip.specs.Meaning.{read_latency}
use Rattle.model.specs.Contents.{Contents}

-- the strobe is there once the frame has started: it goes when as many reads are answered as the count says, 0 being
-- never
abbrev pub strobe_stays : Contents → Bool
strobe_stays m = m.state.strobe && (m.strobe_count == 0 || nat_lt m.answered_reads m.strobe_count)

-- a read would be of variable latency, and find the strobe
abbrev pub is_variable : Contents → Bool
is_variable m = strobe_stays m && not (is_fixed (mr0 m.state.mr0).latency_type)

-- the next variable read meets a refresh
abbrev pub meets_refresh : Contents → Bool
meets_refresh m = m.refresh_word / 2 ^ m.variable_reads % 2 == 1

-- the latency of a read: LC where it is variable and meets no refresh, else 2 LC
abbrev pub latency : Contents → ℕ
latency m =
    if is_variable m && not (meets_refresh m) then clocks (read_latency m.state) else 2 * clocks (read_latency m.state)
