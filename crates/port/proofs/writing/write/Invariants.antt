use Rattle.std.proofs.Common.{ℕ, [], length}
use Rattle.split.specs.Pieces.{pieces_left}
use Rattle.split.specs.declared.direction.Direction.TheVariants.{Write}
use Rattle.port.specs.Plans.{write_piece}
use Rattle.port.proofs.Loops.{IsUnderWay}
use Rattle.port.proofs.writing.write.Given as goal

abbrev pub invariant-loop-piece : goal.invariant-loop-piece
invariant-loop-piece g l =
    let p = l.fn.payload in
    record {
      from : ℕ;
      so_far :
          IsUnderWay g.C.Chip.meaning g.C.Chip.gives Write (write_piece p.start p.«data».now p.mask.now) p.start
          (length p.«data».now) l.fn.chip [] from (pieces_left l.piece-iterator) l.traffic l.chip;
      same : g.C.Chip.same_config l.fn.chip l.chip;
    }
