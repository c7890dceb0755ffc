use Rattle.model.proofs.Ranges.{range_covered}
use Rattle.model.proofs.device.Device.refreshed.Goals as goal

pub returns-then-span-from : goal.returns-then-span-from
returns-then-span-from c =
    let begins = c.if-span-from.true in
    rw (c.from.ensures, c.from-2.ensures, c.from-then-span-from.ensures, c.refreshed_span-span.ensures, c.size.ensures)
    (range_covered _ _ c.args.from c.args.count (rw (c.refreshed_span-span.ensures, c.size.ensures) at begins) c.if-count-eq0.false)
