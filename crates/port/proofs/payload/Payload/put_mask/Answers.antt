use Rattle.std.proofs.Common.{◌∙◌, arith}
use Rattle.std.proofs.lemmas.List.FromFn.{fill_by_all}
use Rattle.port.proofs.payload.Payload.put_mask.Goals as goal

pub returns : goal.returns
returns c = fill_by_all _ _ _ 0 (c.loop-k.auto.mask ∙ c.requires.size) (λ j h. c.loop-k.invariant j (omega arith))
