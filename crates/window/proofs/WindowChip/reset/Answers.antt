use Rattle.window.proofs.Windows.{resets_above}
use Rattle.window.proofs.WindowChip.reset.Goals as goal

pub returns-clause-does : goal.returns-clause-does
returns-clause-does g c =
    let w = c.args.self.now in
    resets_above w.hidden (g.C.Chip.meaning w.chip) _ w.page_left _ c.args.pulse _ c.reset.ensures.does
