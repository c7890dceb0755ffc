use Rattle.scrambler.proofs.Stacks.{written_comes_back}
use Rattle.scrambler.proofs.stack.Scrambler+Window+C.lies_at.Goals as goal

pub returns-clause-comes_back : goal.returns-clause-comes_back
returns-clause-comes_back g c = written_comes_back
