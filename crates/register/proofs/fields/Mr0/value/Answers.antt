use Rattle.std.proofs.Common.{arith}
use Rattle.register.proofs.Bits.{fields_of_mr0, writes_mr0}
use Rattle.register.proofs.fields.Mr0.value.Goals as goal

pub returns-clause-writes : goal.returns-clause-writes
returns-clause-writes c = writes_mr0 _ _ _ _ (grind (arith, fields_of_mr0))
