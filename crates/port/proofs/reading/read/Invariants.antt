use Rattle.split.specs.Pieces.{pieces_left}
use Rattle.port.proofs.PiecesRead.{IsReading}
use Rattle.port.proofs.reading.read.Given as goal

abbrev pub invariant-loop-piece : goal.invariant-loop-piece
invariant-loop-piece g l = record {
  so_far :
      IsReading g.C.Chip.meaning g.C.Chip.gives l.fn.start l.fn.buffer l.fn.chip (pieces_left l.piece-iterator)
      l.traffic l.buffer l.chip;
  same : g.C.Chip.same_config l.fn.chip l.chip;
}
