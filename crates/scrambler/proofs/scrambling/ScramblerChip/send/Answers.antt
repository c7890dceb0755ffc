use Rattle.std.proofs.Common.{◌≡◌, Err, refl, ap, ◌∙◌}
use Rattle.std.proofs.lemmas.Result.{err_from_is_err_and}
use Rattle.scrambler.proofs.Scramblers.{does_as_sent, answered_read, faulted_read, combined_write, long_write, as_it_is}
use Rattle.scrambler.proofs.scrambling.ScramblerChip.send.Goals as goal
use Rattle.scrambler.proofs.scrambling.ScramblerChip.send.Goals.{in_default-via-in-Write+else-data-le-SCRATCH, in_default-via-in_default}

pub returns-in_err-reply-in-Read : goal.returns-in_err-reply-in-Read
returns-in_err-reply-in-Read g c =
    let s = c.args.self.now in
    let d = c.in_err-reply-in-Read.field-0.0 in
    let (e, back, same) = err_from_is_err_and {Q = λ x. x ≡ d} c.from_residual.result c.from_residual.ensures.1 in
    let fault = back ∙ ap (λ x. Err x) same in
    let sends = c.in_err-reply-in-Read.ensures in
    let below = faulted_read _ _ s.key _ _ c.args.gap c.args.frame _ c.in-Read.burst c.in-Read.start c.in-Read.is _ d _ fault record { own = sends.own; does = sends.does } in
    record { own = (refl, below); does = does_as_sent _ _ s.key _ _ c.args.gap c.args.frame _ _ _ below; same = (refl, sends.same) }

pub returns-in_ok-reply-in-Read : goal.returns-in_ok-reply-in-Read
returns-in_ok-reply-in-Read g c =
    let s = c.args.self.now in
    let sends = c.in_ok-reply-in-Read.ensures in
    let below = answered_read _ _ s.key _ _ c.args.gap c.args.frame _ c.in-Read.burst c.in-Read.start c.in-Read.is _ _ _ c.combine.ensures record { own = sends.own; does = sends.does } in
    record { own = (refl, below); does = does_as_sent _ _ s.key _ _ c.args.gap c.args.frame _ _ _ below; same = (refl, sends.same) }

pub returns-in-Write : goal.returns-in-Write
returns-in-Write g c =
    let s = c.args.self.now in
    let sends = c.send-in-Write.ensures in
    let below = combined_write _ _ s.key _ _ c.args.gap c.args.frame _ c.in-Write.burst c.in-Write.start c.in-Write.data c.in-Write.mask c.in-Write.is _ _ c.if-data-le-SCRATCH.true c.copy_from_slice.ensures.after c.combine-in-Write.ensures _ _ record { own = sends.own; does = sends.does } in
    record { own = (refl, below); does = does_as_sent _ _ s.key _ _ c.args.gap c.args.frame _ _ _ below; same = (refl, sends.same) }

pub returns-in_default : goal.returns-in_default
returns-in_default g c =
    let s = c.args.self.now in
    let f = c.args.frame in
    let sends = c.send-in_default.ensures in
    elim c.in_default.branch [
      | in_default-via-in-Write+else-data-le-SCRATCH w ↦ let below = long_write _ _ s.key _ _ c.args.gap f _ w.in-Write.burst w.in-Write.start w.in-Write.data w.in-Write.mask w.in-Write.is w.if-data-le-SCRATCH.false _ _ record { own = sends.own; does = sends.does } in record { own = (refl, below); does = does_as_sent _ _ s.key _ _ c.args.gap f _ _ _ below; same = (refl, sends.same) }
      | in_default-via-in_default w ↦ let below = as_it_is _ _ s.key _ _ c.args.gap f _ f w.in_default.not-Read w.in_default.not-Write _ _ record { own = sends.own; does = sends.does } in record { own = (refl, below); does = does_as_sent _ _ s.key _ _ c.args.gap f _ _ _ below; same = (refl, sends.same) }
    ]
