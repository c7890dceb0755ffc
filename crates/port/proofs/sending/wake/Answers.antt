use Rattle.std.proofs.Common.{[], ◌∷◌, refl, ◌∙◌, zero-add}
use Rattle.chip.specs.Sent.{global_reset}
use Rattle.port.specs.Plans.{send}
use Rattle.port.proofs.Carries.{carries_frame, carries_by}
use Rattle.port.proofs.Frames.{wake_facts}
use Rattle.port.proofs.Sends.{fit_global_reset}
use Rattle.port.proofs.sending.wake.Goals as goal

pub transmit-outcome-requires : goal.transmit-outcome-requires
transmit-outcome-requires g c = record {
  fit =
      fit_global_reset (g.C.Chip.meaning c.args.chip.now) (g.met.C.Chip.lawful c.args.chip.now) c.requires.unwoken;
}

pub returns-clause-carries : goal.returns-clause-carries
returns-clause-carries g c =
    let one = c.transmit-outcome.ensures.exchange in
    let facts = wake_facts g.C.Chip.meaning g.C.Chip.gives _ _ _ one refl in
    let low = zero-add c.transmit-outcome.result.low in
    carries_by g.C.Chip.meaning g.C.Chip.gives _ _ _ (send global_reset ∷ []) _ _ refl
    (c.and_frame.ensures ∙ λ i. record { frames = 1; clocks = low i })
    (carries_frame g.C.Chip.meaning g.C.Chip.gives _ _ _ one facts.answer refl)

pub returns-clause-awake : goal.returns-clause-awake
returns-clause-awake g c =
    (wake_facts g.C.Chip.meaning g.C.Chip.gives _ _ _ c.transmit-outcome.ensures.exchange refl).awake
