use Rattle.std.proofs.Common.{refl, arith}
use Rattle.split.proofs.Roundings.{rounded_is}
use Rattle.split.proofs.frames.rounded_span.Goals as goal

pub returns : goal.returns
returns c = rounded_is _ _ _ refl (omega arith) (omega arith)
