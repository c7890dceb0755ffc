use Rattle.std.proofs.Common.{◌≡◌, ◌-◌, ◌++◌, length, take, drop, length-take, sym, ap, ◌∙◌, arith}
use Rattle.std.proofs.lemmas.List.{take_rest}
use Rattle.frame.specs.declared.burst.Burst.TheVariants.{Linear}
use Rattle.chip.specs.Sent.{read}
use Rattle.split.specs.Pieces.{pieces_left}
use Rattle.split.specs.declared.direction.Direction.TheVariants.{Read}
use Rattle.port.specs.Answers.{buffer_with}
use Rattle.port.proofs.Loops.{IsNext, is_next}
use Rattle.port.proofs.MemoryFrames.{fit_read}
use Rattle.port.proofs.Pieces.{pieces_are}
use Rattle.port.proofs.PiecesRead.{read_begins, read_is_lost, read_goes_on}
use Rattle.port.proofs.reading.read.Given.{Over}
use Rattle.port.proofs.reading.read.Goals as goal
use Rattle.port.proofs.reading.read.Goals.{After-bytes}

pub loop-piece-init : goal.loop-piece-init
loop-piece-init g c =
    let all =
    ap pieces_left c.into_iter-piece-iterator.ensures.into_iter_gives ∙ c.pieces-piece-items.ensures
    ∙ pieces_are Read c.args.start (length c.args.buffer.now) c.new-splitter.result c.config-make.ensures
    c.new-splitter.ensures.make c.new-splitter.ensures.limit c.rounded_span.ensures c.unwrap-span.ensures in
    record {
      so_far = read_begins _ _ c.args.start c.args.buffer.now c.args.chip.now _ all c.requires.ready;
      same = g.met.C.Chip.same_composes.none _;
    }

next : (g : Over) (c : After-bytes g)
    → IsNext Read c.args.start (length c.args.buffer.now) c.in-Some.piece c.loop-piece.traffic
    (g.C.Chip.meaning c.loop-piece.chip)
next g c = is_next c.loop-piece.invariant.so_far.under_way c.in-Some.ensures.steps c.requires.inside

-- the frame has as many bytes as the piece
long : (g : Over) (c : After-bytes g)
    → length (take c.bytes.result c.loop-piece.scratch) ≡ c.in-Some.piece.to - c.in-Some.piece.from
long g c = let is = next g c in omega (arith, length-take c.bytes.result c.loop-piece.scratch, is.in_scratch)

pub transmit-outcome-requires : goal.transmit-outcome-requires
transmit-outcome-requires g c =
    let here = (goal.at.transmit-outcome-requires g c).After-bytes in
    let is = next g here in
    let m = g.C.Chip.meaning c.loop-piece.chip in
    let ready = c.loop-piece.invariant.so_far.under_way.ready in
    record {
      fit =
          rw (long g here)
          (fit_read m c.in-Some.piece.from ready is.even is.in_chip _ (omega (arith, is.some)) is.short);
    }

pub and_frame-traffic-requires-clause-frames : goal.and_frame-traffic-requires-clause-frames
and_frame-traffic-requires-clause-frames g c =
    let is = next g (goal.at.and_frame-traffic-requires-clause-frames g c).After-bytes in omega (arith, is.frames)

pub and_frame-traffic-requires-clause-clocks : goal.and_frame-traffic-requires-clause-clocks
and_frame-traffic-requires-clause-clocks g c =
    let is = next g (goal.at.and_frame-traffic-requires-clause-clocks g c).After-bytes in
    omega (arith, is.clocks, c.transmit-outcome.ensures.short)

pub lay-requires : goal.lay-requires
lay-requires g c =
    let is = next g (goal.at.lay-requires g c).After-bytes in
    omega (arith, is.in_range, c.saturating_sub-place.ensures)

pub returns-then-is_err-clause-performed : goal.returns-then-is_err-clause-performed
returns-then-is_err-clause-performed g c =
    let here = (goal.at.returns-then-is_err-clause-performed g c).After-bytes in
    let is = next g here in
    let place_is = c.saturating_sub-place.ensures in
    rw (c.at.ensures, c.and_frame-traffic.ensures)
    (read_is_lost c.loop-piece.invariant.so_far c.in-Some.ensures.steps c.transmit-outcome.ensures.exchange
    (ap (read Linear c.in-Some.piece.from) (long g here)) place_is (omega (arith, is.in_range, place_is))
    (sym c.is_err.ensures.value ∙ c.if-is_err.true))

pub returns-then-is_err-clause-same : goal.returns-then-is_err-clause-same
returns-then-is_err-clause-same g c =
    g.met.C.Chip.same_composes.two _ _ _ c.loop-piece.invariant.same c.transmit-outcome.ensures.same

pub loop-piece-preserved : goal.loop-piece-preserved
loop-piece-preserved g c =
    let here = (goal.at.loop-piece-preserved g c).After-bytes in
    let is = next g here in
    let place_is = c.saturating_sub-place.ensures in
    let place = c.saturating_sub-place.result in
    let buffer = c.loop-piece.buffer in
    let lays =
    c.lay.ensures
    ∙ ap (λ bytes. take place buffer ++ buffer_with (drop place buffer) bytes)
    (take_rest c.transmit-outcome.new.buffer c.saturating_sub-added.result) in
    record {
      so_far =
          rw c.and_frame-traffic.ensures
          (read_goes_on c.loop-piece.invariant.so_far c.in-Some.ensures.steps c.transmit-outcome.ensures.exchange
          (ap (read Linear c.in-Some.piece.from) (long g here)) place_is (omega (arith, is.in_range, place_is))
          (sym c.is_err.ensures.value ∙ c.if-is_err.false) (c.transmit-outcome.auto.buffer ∙ long g here)
          c.saturating_sub-added.ensures lays);
      same = g.met.C.Chip.same_composes.two _ _ _ c.loop-piece.invariant.same c.transmit-outcome.ensures.same;
    }
