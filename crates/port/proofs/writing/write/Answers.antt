use Rattle.std.proofs.Common.{length, ap, ◌∙◌, arith}
use Rattle.frame.specs.declared.burst.Burst.TheVariants.{Linear}
use Rattle.chip.specs.Sent.{write}
use Rattle.split.specs.Pieces.{pieces_left}
use Rattle.split.specs.Splits.{rounded_from}
use Rattle.split.specs.declared.direction.Direction.TheVariants.{Write}
use Rattle.port.proofs.Loops.{IsNext, begins, is_next}
use Rattle.port.proofs.Pieces.{pieces_are}
use Rattle.port.proofs.PiecesWritten.{fit_written, write_goes_on}
use Rattle.port.proofs.writing.write.Given.{Over}
use Rattle.port.proofs.writing.write.Goals as goal
use Rattle.port.proofs.writing.write.Goals.{In-Some}

pub loop-piece-init : goal.loop-piece-init
loop-piece-init g c =
    let p = c.args.payload.now in
    let all =
    ap pieces_left c.into_iter-piece-iterator.ensures.into_iter_gives ∙ c.pieces-piece-items.ensures
    ∙ pieces_are Write p.start (length p.«data».now) c.new-splitter.result c.config-make.ensures
    c.new-splitter.ensures.make c.new-splitter.ensures.limit c.rounded_span.ensures c.unwrap-span.ensures in
    record {
      from = rounded_from p.start;
      so_far = begins _ _ Write _ p.start (length p.«data».now) c.args.chip.now _ all c.requires.ready;
      same = g.met.C.Chip.same_composes.none _;
    }

next : (g : Over) (c : In-Some g)
    → IsNext Write c.args.payload.now.start (length c.args.payload.now.«data».now) c.in-Some.piece c.loop-piece.traffic
    (g.C.Chip.meaning c.loop-piece.chip)
next g c = is_next c.loop-piece.invariant.so_far c.in-Some.ensures.steps c.requires.inside

pub transmit-outcome-requires : goal.transmit-outcome-requires
transmit-outcome-requires g c =
    let p = c.args.payload.now in
    let m = g.C.Chip.meaning c.loop-piece.chip in
    let is = next g (goal.at.transmit-outcome-requires g c).In-Some in
    let ready = c.loop-piece.invariant.so_far.ready in
    record {
      fit =
          rw (c.put_data.ensures, c.put_mask.ensures)
          (fit_written m p.start (length p.«data».now) p.«data».now p.mask.now ready is);
    }

pub and_frame-traffic-requires-clause-frames : goal.and_frame-traffic-requires-clause-frames
and_frame-traffic-requires-clause-frames g c =
    let is = next g (goal.at.and_frame-traffic-requires-clause-frames g c).In-Some in omega (arith, is.frames)

pub and_frame-traffic-requires-clause-clocks : goal.and_frame-traffic-requires-clause-clocks
and_frame-traffic-requires-clause-clocks g c =
    let is = next g (goal.at.and_frame-traffic-requires-clause-clocks g c).In-Some in
    omega (arith, is.clocks, c.transmit-outcome.ensures.short)

pub loop-piece-preserved : goal.loop-piece-preserved
loop-piece-preserved g c =
    let p = c.args.payload.now in
    let loop = c.loop-piece.invariant in
    record {
      from = c.in-Some.piece.to;
      so_far =
          rw c.and_frame-traffic.ensures
          (write_goes_on p.«data».now p.mask.now loop.so_far c.in-Some.ensures.steps c.transmit-outcome.ensures.exchange
          (λ i. write Linear c.in-Some.piece.from (c.put_data.ensures i) (c.put_mask.ensures i)));
      same = g.met.C.Chip.same_composes.two _ _ _ loop.same c.transmit-outcome.ensures.same;
    }
