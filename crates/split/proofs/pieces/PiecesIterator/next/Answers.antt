use Rattle.std.proofs.Common.{length, refl, ap, arith}
use Rattle.frame.specs.Spans.{span_of}
use Rattle.split.proofs.Longest.{step_pieces_from}
use Rattle.split.proofs.pieces.PiecesIterator.next.Goals as goal

pub returns-clause-steps : goal.returns-clause-steps
returns-clause-steps c = step_pieces_from c.next_length.ensures.longest _ _ _ _ (omega arith) c.next_length.ensures.value refl refl

pub returns-clause-goes : goal.returns-clause-goes
returns-clause-goes c =
    let is = step_pieces_from c.next_length.ensures.longest c.args.self.now.left.from c.args.self.now.left.to _ (span_of _ _) (omega arith) c.next_length.ensures.value refl refl in
    record { on = λ _. (tt, tt, omega (arith, ap length is)); keeps = tt; rests = λ _. tt }
