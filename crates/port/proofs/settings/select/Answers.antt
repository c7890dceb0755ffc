use Rattle.std.proofs.Common.{◌≡◌, true, ◌==◌, [], ◌∷◌, refl, sym, ap, ◌∙◌, arith}
use Rattle.std.proofs.lemmas.Bool.{cond-true}
use Rattle.register.specs.Registers.{mr8_value}
use Rattle.port.specs.Plans.{set, select_line}
use Rattle.port.proofs.Carries.{carries_none, carries_by}
use Rattle.port.proofs.settings.select.Goals as goal

pub returns-then-state-value-clause-carries : goal.returns-then-state-value-clause-carries
returns-then-state-value-clause-carries g c =
    let s = (g.C.Chip.meaning c.args.chip.now).state in
    let holds : s.mr8 ≡ mr8_value c.args.line =
    ap (λ x. x.mr8) (sym c.state.ensures) ∙ c.if-state-value.true ∙ c.mr8-value.ensures.value in
    let same : (s.mr8 == mr8_value c.args.line) ≡ true = grind (arith, holds) in
    carries_by g.C.Chip.meaning g.C.Chip.gives _ _ [] (select_line s c.args.line) _ _
    (sym (cond-true _ [] (set 8 (mr8_value c.args.line) ∷ []) same)) refl
    (carries_none g.C.Chip.meaning g.C.Chip.gives c.args.chip.now)
