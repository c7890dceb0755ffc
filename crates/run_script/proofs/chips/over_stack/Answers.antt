use Rattle.std.proofs.Common.{◌≡◌, subst, rules}
use Rattle.std.proofs.lemmas.Result.{IfOk-weaker}
use Rattle.model.specs.Contents.{contents}
use Rattle.run_script.specs.Chips.{IsModelOf}
use Rattle.script.specs.Openings.{fields_of}
use Rattle.run_script.proofs.Views.{stack_session}
use Rattle.run_script.proofs.chips.over_stack.Goals as goal

pub returns : goal.returns
returns g c =
    let stack = c.unwrap-stack.result in
    let over : c.in_ok-model.model ≡ stack.chip.chip = search rules in
    let fresh = subst (λ m. IsModelOf (fields_of c.args.opening.now) (contents m.device)) over c.in_ok-model.ensures in
    let hides : stack.chip.hidden ≡ 1 = search rules in
    let key : stack.key ≡ c.args.key = search rules in
    IfOk-weaker c.session.result _ _
    (λ rs s. stack_session stack (λ x. x.chip) (λ w. w.chip) (λ m. contents m.device) (λ w. w.hidden) (λ x. x.key)
    (λ w. w.page_left) _ (fields_of c.args.opening.now) _ _ fresh hides key s)
    c.session.ensures
