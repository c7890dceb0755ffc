use Rattle.std.proofs.Common.{◌≡◌, [], ◌∷◌, ap, ◌∙◌}
use Rattle.std.specs.Option.{unwrap_or}
use Rattle.chip.specs.Taken.{reset_value}
use Rattle.register.specs.Registers.{mr0, mr0_value, mr4_value}
use Rattle.register.specs.Table.{after_reset}
use Rattle.register.specs.declared.fields.Coverage.TheVariants.{All}
use Rattle.register.specs.declared.fields.LatencyType.TheVariants.{Variable}
use Rattle.port.specs.Plans.{set, set_up}
use Rattle.port.proofs.Carries.{carries_both, carries_by}
use Rattle.port.proofs.settings.set_up.Goals as goal

pub returns-clause-carries : goal.returns-clause-carries
returns-clause-carries g c =
    let k = (g.C.Chip.meaning c.args.chip.now).config in
    let reset : c.unwrap_or.result ≡ reset_value k.make 0 =
    c.unwrap_or.ensures
    ∙ ap (λ o. unwrap_or o 0) (c.after_reset.ensures ∙ λ i. after_reset (c.config-make.ensures i).make 0) in
    let drive : c.from-drive.result.drive ≡ (mr0 (reset_value k.make 0)).drive =
    ap (λ r. r.drive) c.from-drive.ensures ∙ ap (λ v. (mr0 v).drive) reset in
    let first : c.value.result ≡ mr0_value k.clock.lc Variable (mr0 (reset_value k.make 0)).drive =
    c.value.ensures.value ∙ λ i. mr0_value (c.config-make.ensures i).clock.lc Variable (drive i) in
    let second : c.value-2.result ≡ mr4_value k.clock.wl All =
    c.value-2.ensures.value ∙ λ i. mr4_value (c.config-make.ensures i).clock.wl All in
    carries_by g.C.Chip.meaning g.C.Chip.gives _ _ (set 0 c.value.result ∷ set 4 c.value-2.result ∷ []) (set_up k) _ _
    (λ i. set 0 (first i) ∷ set 4 (second i) ∷ []) c.and.ensures
    (carries_both g.C.Chip.meaning g.C.Chip.gives _ _ _ _ _ _ _ c.set-first.ensures.carries
    c.set-second.ensures.carries)
