use Rattle.std.proofs.Common.{arith}
use Rattle.register.proofs.Bits.{fields_of_mr4, writes_mr4}
use Rattle.register.proofs.fields.Mr4.value.Goals as goal

pub returns-clause-writes : goal.returns-clause-writes
returns-clause-writes c = writes_mr4 _ _ _ (grind (arith, fields_of_mr4))
