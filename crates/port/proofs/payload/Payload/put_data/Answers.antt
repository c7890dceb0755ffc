use Rattle.std.proofs.Common.{◌∙◌, arith}
use Rattle.std.proofs.lemmas.List.FromFn.{fill_by_all}
use Rattle.port.proofs.payload.Payload.put_data.Goals as goal

pub returns : goal.returns
returns c = fill_by_all _ _ _ 0 (c.loop-i.auto.bytes ∙ c.requires) (λ k h. c.loop-i.invariant k (omega arith))
