use Rattle.std.proofs.Common.{◌≡◌, length, None, ap, ◌∙◌, sym, subst}
use Rattle.std.specs.Prelude.{is_err}
use Rattle.port.specs.Requests.{requested, refusal}
use Rattle.port.specs.Serves.{Judged, transaction, woken}
use Rattle.port.proofs.Accepted.{found_too, requested_fits}
use Rattle.port.proofs.ActLists.{lost_is_err}
use Rattle.port.proofs.Ready.{plan_ready}
use Rattle.port.proofs.ports.WokenPort.request.Goals as goal

pub perform-served-requires-clause-taken : goal.perform-served-requires-clause-taken
perform-served-requires-clause-taken g c =
    found_too (g.C.Chip.meaning c.args.self.now.chip) c.args.self.now.lost _ (sym c.refusal.ensures ∙ c.in_default.is)

-- what was done leaves the chip ready
pub invariant_of-self-2 : goal.invariant_of-self-2
invariant_of-self-2 g c =
    let p = c.args.self.now in
    let (acts, performed) = c.perform-served.ensures.performed in
    record {
      ready =
          plan_ready g.C.Chip.meaning g.C.Chip.gives _ _ (requested c.args.request (length c.args.buffer.now)) acts
          performed.follows performed.acts p.ready;
    }

pub returns-clause-serves : goal.returns-clause-serves
returns-clause-serves g c =
    let p = c.args.self.now in
    let buffer = c.args.buffer.now in
    let q = requested c.args.request (length buffer) in
    let (acts, performed) = c.perform-served.ensures.performed in
    let none : refusal (g.C.Chip.meaning p.chip) p.lost q ≡ None = sym c.refusal.ensures ∙ c.in_default.is in
    let lost = c.is_err-self.ensures.value ∙ ap is_err performed.answer ∙ lost_is_err buffer q acts in (
      acts,
      record {
        fits = requested_fits c.args.request buffer;
        judged =
            subst (λ o. Judged g.C.Chip.meaning g.C.Chip.gives o (woken p.chip p.lost)
            (transaction q buffer acts c.perform-served.result c.perform-served.new.buffer)
            (woken c.perform-served.new.chip c.is_err-self.result))
            (sym none) (performed, lost);
      },
    )
