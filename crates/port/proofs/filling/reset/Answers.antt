use Rattle.std.proofs.Common.{◌≡◌, ◌+◌, ◌∷◌, sym, zero-add}
use Rattle.port.specs.Plans.{pulse, set_up}
use Rattle.port.proofs.Carries.{carries_pulse, carries_both, carries_by}
use Rattle.port.proofs.Frames.{pulse_facts}
use Rattle.port.proofs.filling.reset.Goals as goal

pub returns-clause-carries : goal.returns-clause-carries
returns-clause-carries g c =
    let k = (g.C.Chip.meaning c.args.chip.now).config in
    let facts = pulse_facts g.C.Chip.meaning g.C.Chip.gives _ _ _ c.pulse.ensures.pulse in
    let pulsed = carries_pulse g.C.Chip.meaning g.C.Chip.gives _ _ _ c.pulse.ensures.pulse in
    let sum : c.set_up.result ≡ record { frames = 0 + c.set_up.result.frames; clocks = 0 + c.set_up.result.clocks } =
    sym (λ i. record { frames = zero-add c.set_up.result.frames i; clocks = zero-add c.set_up.result.clocks i }) in
    carries_by g.C.Chip.meaning g.C.Chip.gives _ _ _ (pulse k.clock.trp ∷ set_up k) _ _
    (λ i. pulse k.clock.trp ∷ set_up (facts.same.config i)) sum
    (carries_both g.C.Chip.meaning g.C.Chip.gives _ _ _ _ _ _ _ pulsed c.set_up.ensures.carries)
