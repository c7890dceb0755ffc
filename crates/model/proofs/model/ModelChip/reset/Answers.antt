use Rattle.model.specs.Contents.{contents}
use Rattle.model.proofs.IsChip.{resets, reset_same}
use Rattle.model.proofs.model.ModelChip.reset.Goals as goal

pub returns-clause-does : goal.returns-clause-does
returns-clause-does g c = resets _ _ _ _ c.reset.ensures

pub returns-clause-same : goal.returns-clause-same
returns-clause-same g c = reset_same (contents c.args.self.now.device) _ _ _ c.reset.ensures
