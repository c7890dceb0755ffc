use Rattle.std.proofs.Common.{◌≡◌, vec_items}
use Rattle.chip.specs.Taken.{address}
use Rattle.model.specs.Contents.{contents}
use Rattle.model.specs.Store.{written_store}
use Rattle.model.proofs.device.Device.put.Given as goal

abbrev pub invariant-loop-i : goal.invariant-loop-i
invariant-loop-i l = contents l.self ≡ record (contents l.initial.self) {
  store = written_store (address l.initial.self.config l.initial.self.state l.burst l.start) l.data l.mask l.i (vec_items l.initial.self.store);
}
