use Rattle.std.proofs.Common.{◌≡◌, ◌<◌, ◌++◌, [], ◌∷◌, length, refl, sym, ap, ◌∙◌, subst}
use Rattle.chip.specs.Meaning.{size}
use Rattle.chip.specs.Sent.{read}
use Rattle.frame.specs.declared.burst.Burst.TheVariants.{Wrapped}
use Rattle.register.specs.Registers.{block_of_line}
use Rattle.port.specs.Plans.{send, select_line, line_of}
use Rattle.port.specs.Requests.{fill}
use Rattle.port.specs.Serves.{IsPerformed}
use Rattle.port.proofs.Frames.{frame_facts}
use Rattle.port.proofs.Performs.{performs_frame, lost_answer, read_lays_even, read_lost}
use Rattle.port.proofs.Sends.{fit_line}
use Rattle.port.proofs.filling.fill.Goals as goal

pub transmit-outcome-requires : goal.transmit-outcome-requires
transmit-outcome-requires g c =
    let d = c.select-selected.new.chip in
    let same = g.met.C.Chip.means_the_same c.args.chip.now d c.select-selected.ensures.same in
    let ready = c.select-selected.ensures.ready in
    record {
      fit =
          fit_line (g.C.Chip.meaning d) (Wrapped c.block_of.result) c.args.start (length c.args.buffer.now)
          (g.met.C.Chip.lawful d) ready.awake ready.reads c.requires.line c.requires.even
          (subst (λ k. c.args.start < size k) (sym same.config) c.requires.inside);
    }

pub returns-clause-performed : goal.returns-clause-performed
returns-clause-performed g c =
    let s = (g.C.Chip.meaning c.args.chip.now).state in
    let a = c.args.start in
    let n = length c.args.buffer.now in
    let m = g.C.Chip.meaning c.select-selected.new.chip in
    let one = c.transmit-outcome.ensures.exchange in
    let facts = frame_facts g.C.Chip.meaning g.C.Chip.gives _ _ _ one c.select-selected.ensures.ready.awake in
    let block : c.block_of.result ≡ block_of_line (line_of n) =
    c.block_of.ensures ∙ ap block_of_line c.line_of-line.ensures in
    subst
    (λ t. IsPerformed g.C.Chip.meaning g.C.Chip.gives c.args.chip.now (fill a n) c.args.buffer.now
    record { answer = c.transmit-outcome.result.answer; traffic = t } c.transmit-outcome.new.buffer
    c.transmit-outcome.new.chip)
    (sym c.and_frame.ensures)
    (performs_frame g.C.Chip.meaning g.C.Chip.gives c.args.chip.now c.select-selected.new.chip
    c.transmit-outcome.new.chip (fill a n) _ (select_line s c.line_of-line.result) c.select-selected.result
    c.args.buffer.now c.transmit-outcome.new.buffer c.select-selected.ensures.carries one
    (λ i. select_line s (c.line_of-line.ensures i) ++ send (read (Wrapped (block i)) a n) ∷ [])
    (λ lost. (lost_answer m _ _ facts lost, read_lost m _ _ (Wrapped c.block_of.result) a n facts refl lost))
    (read_lays_even m _ _ (Wrapped c.block_of.result) a n facts refl c.requires.even))
