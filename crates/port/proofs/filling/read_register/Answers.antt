use Rattle.std.proofs.Common.{[], refl, sym, ap, ◌∙◌, subst}
use Rattle.std.proofs.Math.Seq.{drop-nil}
use Rattle.port.specs.Answers.{buffer_with}
use Rattle.port.specs.Requests.{register}
use Rattle.port.specs.Serves.{IsPerformed}
use Rattle.port.proofs.Carries.{carries_none}
use Rattle.port.proofs.Frames.{frame_facts}
use Rattle.port.proofs.Performs.{performs_frame, lost_answer, laid_none}
use Rattle.port.proofs.Sends.{fit_register_read}
use Rattle.port.proofs.filling.read_register.Goals as goal

pub transmit-outcome-requires : goal.transmit-outcome-requires
transmit-outcome-requires g c = record {
  fit =
      fit_register_read (g.C.Chip.meaning c.args.chip.now) c.args.number (g.met.C.Chip.lawful c.args.chip.now)
      c.requires.ready.awake c.requires.ready.reads c.requires.there;
}

pub returns-clause-performed : goal.returns-clause-performed
returns-clause-performed g c buffer =
    let one = c.transmit-outcome.ensures.exchange in
    let facts = frame_facts g.C.Chip.meaning g.C.Chip.gives _ _ _ one c.requires.ready.awake in
    subst
    (λ t. IsPerformed g.C.Chip.meaning g.C.Chip.gives c.args.chip.now (register c.args.number) buffer
    record { answer = c.transmit-outcome.result.answer; traffic = t } buffer c.transmit-outcome.new.chip)
    (sym c.and_frame.ensures)
    (performs_frame g.C.Chip.meaning g.C.Chip.gives c.args.chip.now c.args.chip.now c.transmit-outcome.new.chip
    (register c.args.number) _ [] record { frames = 0; clocks = 0 } buffer buffer
    (carries_none g.C.Chip.meaning g.C.Chip.gives c.args.chip.now) one refl
    (λ lost. (lost_answer _ _ _ facts lost, refl))
    (sym (ap (buffer_with buffer) (drop-nil 0) ∙ laid_none buffer)))
