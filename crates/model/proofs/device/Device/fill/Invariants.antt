use Rattle.std.proofs.Common.{◌≡◌, ℕ, ◌<◌, get_or, vec_items}
use Rattle.chip.specs.Taken.{address}
use Rattle.model.proofs.device.Device.fill.Given as goal

abbrev pub invariant-loop-i : goal.invariant-loop-i
invariant-loop-i l = (k : ℕ) → k < l.i → get_or l.buffer k 0 ≡ get_or (vec_items l.self.store) (address l.self.config l.self.state l.burst l.start k) 0
