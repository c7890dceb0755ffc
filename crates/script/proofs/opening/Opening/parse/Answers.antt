use Rattle.script.proofs.Comes.{comes_back}
use Rattle.script.proofs.opening.Opening.parse.Goals as goal

pub returns-clause-comes_back : goal.returns-clause-comes_back
returns-clause-comes_back c = comes_back c.args.input.now
