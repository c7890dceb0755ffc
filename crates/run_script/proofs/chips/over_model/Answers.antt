use Rattle.std.proofs.lemmas.Result.{IfOk-weaker}
use Rattle.model.specs.Contents.{contents}
use Rattle.script.specs.Openings.{fields_of}
use Rattle.run_script.proofs.Views.{bare_session}
use Rattle.run_script.proofs.chips.over_model.Goals as goal

pub returns : goal.returns
returns g c =
    IfOk-weaker c.session.result _ _
    (λ rs s. bare_session c.in_ok-model.model (λ m. contents m.device) (fields_of c.args.opening.now) _ _
    c.in_ok-model.ensures s)
    c.session.ensures
