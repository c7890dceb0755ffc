use Rattle.std.proofs.Common.{length, ap, ◌∙◌, inl, arith}
use Rattle.std.proofs.lemmas.Iterator.Consumers.{YieldsList-from_first, count_from_yields_List}
use Rattle.split.proofs.Fewest.{fewest, fewest_here}
use Rattle.split.proofs.Longest.{few, length_pieces_from, takes_longest, lawful}
use Rattle.split.specs.Pieces.{pieces_left}
use Rattle.split.proofs.splitter.Splitter.count.Goals as goal

pub count-requires-clause-fits : goal.count-requires-clause-fits
count-requires-clause-fits c = inl (omega (arith, ap length c.pieces.ensures, length_pieces_from, few))

pub overflow_cast-result : goal.overflow_cast-result
overflow_cast-result c = omega (arith, ap length c.pieces.ensures, length_pieces_from, few)

pub returns-clause-value : goal.returns-clause-value
returns-clause-value c =
    count_from_yields_List c.pieces.result _ c.count.ensures.ran (YieldsList-from_first (λ x. x) pieces_left _ c.pieces.ensures) ∙ length_pieces_from _ _

pub returns-clause-lawful : goal.returns-clause-lawful
returns-clause-lawful c =
    let splitter = c.args.self.now in
    λ ends. lawful (takes_longest splitter.make splitter.limit splitter.some splitter.even) _ _ ends.0 ends.1 c.args.span.ordered

pub returns-clause-fewest : goal.returns-clause-fewest
returns-clause-fewest c =
    let splitter = c.args.self.now in
    fewest_here splitter.make splitter.limit splitter.some splitter.even

pub returns-clause-always : goal.returns-clause-always
returns-clause-always c = fewest
