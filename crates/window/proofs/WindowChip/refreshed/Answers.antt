use Rattle.window.proofs.Windows.{refreshed_moved}
use Rattle.window.proofs.WindowChip.refreshed.Goals as goal

pub returns : goal.returns
returns g c =
    let w = c.args.self.now in
    refreshed_moved w.hidden (g.C.Chip.meaning w.chip) c.args.coverage c.args.from c.args.count _ _ (g.met.C.Chip.lawful w.chip) (cc) c.refreshed.ensures
