use Rattle.scrambler.proofs.Scramblers.{resets_above}
use Rattle.scrambler.proofs.scrambling.ScramblerChip.reset.Goals as goal

pub returns-clause-does : goal.returns-clause-does
returns-clause-does g c = resets_above _ _ _ _ _ c.reset.ensures.does
