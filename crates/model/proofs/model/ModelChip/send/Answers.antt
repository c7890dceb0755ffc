use Rattle.std.proofs.Common.{sym, ap, ◌∙◌}
use Rattle.model.specs.Contents.{contents}
use Rattle.model.proofs.IsChip.{sends, step_same, last_write_wins}
use Rattle.model.proofs.model.ModelChip.send.Goals as goal

pub invariant_of-self : goal.invariant_of-self
invariant_of-self g c =
    let m = c.args.self.now in
    record { own = ap (λ k. k.make) (step_same (contents m.device) _ _ _ _ _ _ c.send.ensures).config ∙ m.own }

pub returns-clause-does : goal.returns-clause-does
returns-clause-does g c =
    let d = c.args.self.now.device in
    sends (contents d) c.args.frame c.args.buffer.now (sym d.store.ok.0 ∙ d.whole) _ _ _ _ c.send.ensures

pub returns-clause-same : goal.returns-clause-same
returns-clause-same g c = step_same (contents c.args.self.now.device) _ _ _ _ _ _ c.send.ensures

pub returns-clause-writes_win : goal.returns-clause-writes_win
returns-clause-writes_win g c = last_write_wins
