use Rattle.std.proofs.Common.{[], ◌∷◌, refl, sym, ◌∙◌, subst, zero-add}
use Rattle.port.specs.Carried.{CarriesOut}
use Rattle.port.specs.Plans.{set}
use Rattle.port.proofs.Carries.{carries_frame, set_answer, sets}
use Rattle.port.proofs.Frames.{frame_facts}
use Rattle.port.proofs.Sends.{fit_register_write}
use Rattle.port.proofs.settings.set.Goals as goal

pub transmit-outcome-requires : goal.transmit-outcome-requires
transmit-outcome-requires g c = record {
  fit =
      fit_register_write (g.C.Chip.meaning c.args.chip.now) c.args.number c.args.value
      (g.met.C.Chip.lawful c.args.chip.now) c.requires.awake c.requires.accepted;
}

pub returns-clause-carries : goal.returns-clause-carries
returns-clause-carries g c =
    let one = c.transmit-outcome.ensures.exchange in
    let facts = frame_facts g.C.Chip.meaning g.C.Chip.gives _ _ _ one c.requires.awake in
    let answer = set_answer g.C.Chip.meaning g.C.Chip.gives _ _ _ c.args.number c.args.value facts refl in
    let low = zero-add c.transmit-outcome.result.low in
    subst (λ t. CarriesOut g.C.Chip.meaning g.C.Chip.gives c.args.chip.now
    (set c.args.number c.args.value ∷ []) t c.transmit-outcome.new.chip)
    (sym (c.and_frame.ensures ∙ λ i. record { frames = 1; clocks = low i }))
    (carries_frame g.C.Chip.meaning g.C.Chip.gives _ _ _ one answer refl)

pub returns-clause-sets : goal.returns-clause-sets
returns-clause-sets g c =
    let one = c.transmit-outcome.ensures.exchange in
    let facts = frame_facts g.C.Chip.meaning g.C.Chip.gives _ _ _ one c.requires.awake in
    sets g.C.Chip.meaning g.C.Chip.gives _ _ _ c.args.number c.args.value facts refl
