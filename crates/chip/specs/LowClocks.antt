-- How long CE# is low for a frame. Assumes nothing.
use Rattle.std.specs.Prelude.{ℕ, length}
use Rattle.frame.specs.Low.{low_clocks}
use Rattle.frame.specs.declared.low.Transfer.{Transfer}
use Rattle.frame.specs.declared.low.Transfer.TheVariants as transfer
use Rattle.chip.specs.Meaning.{read_latency, write_latency}
use Rattle.chip.specs.Sent.{Sent, read, write, register_read, register_write, global_reset}
use Rattle.chip.specs.declared.config.Config.{Config}
use Rattle.chip.specs.declared.state.State.{State}

-- what goes over the bus, a memory read with this latency
abbrev pub transfer_of : State → Sent → ℕ → Transfer
transfer_of s (read b a n) l = transfer.Read l n
transfer_of s (write b a d mask) l = transfer.Write (write_latency s) (length d)
transfer_of s (register_read r) l = transfer.RegisterRead (read_latency s)
transfer_of s (register_write r v) l = transfer.RegisterWrite
transfer_of s global_reset l = transfer.GlobalReset

-- the low clocks of a frame, a memory read with this latency
abbrev pub low_for : Config → State → Sent → ℕ → ℕ
low_for k s f l = low_clocks (transfer_of s f l)
