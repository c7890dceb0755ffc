use Rattle.port.proofs.Sends.{pulsed}
use Rattle.port.proofs.sending.pulse.Goals as goal

pub returns-clause-pulse : goal.returns-clause-pulse
returns-clause-pulse g c =
    pulsed g.C.Chip.meaning g.C.Chip.gives _ _ _ c.reset-answer.result (λ i. (c.config.ensures i).clock.trp)
    c.reset-answer.ensures.own c.reset-answer.ensures.does c.requires.awake
