use Rattle.std.proofs.Common.{ℕ, ◌<◌, length, sym, subst, take}
use Rattle.std.proofs.lemmas.List.{take_more}
use Rattle.port.specs.Serves.{woken}
use Rattle.runs.specs.Serving.{ServesAll}
use Rattle.runs.proofs.CallsServed.{on_err, serves_none, serves_more}
use Rattle.runs.proofs.Meant.{is_meant}
use Rattle.runs.proofs.Shorts.{short_and_few}
use Rattle.runs.proofs.Twins.{twin_ports_answer_alike}
use Rattle.runs.proofs.serving.serve.Goals as goal

pub loop-call-init : goal.loop-call-init
loop-call-init g c =
    (serves_none g.C.Chip.meaning g.C.Chip.gives _ _, g.met.C.Chip.same_composes.none c.args.port.now.chip)

pub loop-call-preserved : goal.loop-call-preserved
loop-call-preserved g c =
    let start = woken c.args.port.now.chip c.args.port.now.lost in
    let one = (c.in_ok-respond.ensures {u = tt}).ok in
    let more = serves_more g.C.Chip.meaning g.C.Chip.gives _ _ _ _ _ _ _ _ c.loop-call.invariant.0 one in (
      subst (λ list. ServesAll g.C.Chip.meaning g.C.Chip.gives start list c.args.responses.now.items
          c.respond.new.responses.items (woken c.respond.new.port.chip c.respond.new.port.lost))
          (sym (take_more c.args.calls.now c.loop-call.call-index _ c.loop-call-test.true)) more,
      g.met.C.Chip.same_composes.two _ _ _ c.loop-call.invariant.1 c.respond.ensures.same,
    )

pub returns-in_err-respond-clause-err : goal.returns-in_err-respond-clause-err
returns-in_err-respond-clause-err g c =
    let failed = c.in_err-respond.ensures {u = tt} in
    let start = woken c.args.port.now.chip c.args.port.now.lost in
    let first : (n : ℕ) × (n < length c.args.calls.now) × ServesAll g.C.Chip.meaning g.C.Chip.gives start (take n c.args.calls.now)
    c.args.responses.now.items c.respond.new.responses.items (woken c.respond.new.port.chip c.respond.new.port.lost) = (
      c.loop-call.call-index,
      c.loop-call-test.true,
      subst (λ rs. ServesAll g.C.Chip.meaning g.C.Chip.gives start (take c.loop-call.call-index c.args.calls.now)
          c.args.responses.now.items rs (woken c.respond.new.port.chip c.respond.new.port.lost)) (sym failed.unlisted)
          (subst (λ port. ServesAll g.C.Chip.meaning g.C.Chip.gives start (take c.loop-call.call-index c.args.calls.now)
          c.args.responses.now.items c.loop-call.responses.items (woken port.chip port.lost)) (sym failed.unsent)
          c.loop-call.invariant.0),
    ) in
    on_err _ first

pub returns-in_err-respond-clause-twin_ports_answer_alike :
    goal.returns-in_err-respond-clause-twin_ports_answer_alike
returns-in_err-respond-clause-twin_ports_answer_alike g c =
    twin_ports_answer_alike g.C.Chip.meaning g.C.Chip.gives g.met.C.Chip.lawful

pub returns-in_err-respond-clause-meant : goal.returns-in_err-respond-clause-meant
returns-in_err-respond-clause-meant g c = is_meant g.C.Chip.meaning g.C.Chip.gives

pub returns-in_err-respond-clause-short_and_few : goal.returns-in_err-respond-clause-short_and_few
returns-in_err-respond-clause-short_and_few g c = short_and_few g.C.Chip.meaning g.C.Chip.gives

pub returns-clause-twin_ports_answer_alike : goal.returns-clause-twin_ports_answer_alike
returns-clause-twin_ports_answer_alike g c =
    twin_ports_answer_alike g.C.Chip.meaning g.C.Chip.gives g.met.C.Chip.lawful

pub returns-clause-short_and_few : goal.returns-clause-short_and_few
returns-clause-short_and_few g c = short_and_few g.C.Chip.meaning g.C.Chip.gives

pub returns-clause-meant : goal.returns-clause-meant
returns-clause-meant g c = is_meant g.C.Chip.meaning g.C.Chip.gives
