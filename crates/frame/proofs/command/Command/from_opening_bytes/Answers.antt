use Rattle.std.proofs.Common.{arith, rules}
use Rattle.frame.proofs.Reopens.{command_at, reopened}
use Rattle.frame.proofs.command.Command.from_opening_bytes.Goals as goal

pub returns-clause-opens : goal.returns-clause-opens
returns-clause-opens c = reopened _ _ _ (search rules) (omega arith) (omega arith) (omega arith) (search (rules, command_at)) c.from_be_bytes-address.ensures (omega arith)
