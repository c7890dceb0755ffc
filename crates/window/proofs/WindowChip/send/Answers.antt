use Rattle.std.proofs.Common.{◌≡◌, length, refl, ap, ◌∙◌, rules}
use Rattle.chip.specs.Sent.{sent}
use Rattle.window.specs.Windows.{shift, moved, lowered, placed}
use Rattle.window.proofs.Windows.{read_down, write_down, same_down, placed_by, sent_below, does_above}
use Rattle.window.proofs.WindowChip.send.Goals as goal
use Rattle.window.proofs.WindowChip.send.Goals.{in-Read, in-Write, in_default}

pub returns : goal.returns
returns g c =
    let w = c.args.self.now in
    let m = g.C.Chip.meaning w.chip in
    let f = c.args.frame in
    let n = length c.args.buffer.now in
    let by = shift w.hidden m.config in
    let below_is : sent c.match-frame.below n ≡ lowered by (sent f n) =
    elim c.match-frame.branch [
      | in-Read w ↦ read_down by f _ _ w.in-Read.start _ n w.in-Read.is w.below-is (w.saturating_add.ensures ∙ ap (λ x. moved x w.in-Read.start) c.shift-shift.ensures)
      | in-Write w ↦ write_down by f _ _ w.in-Write.start _ n _ _ w.in-Write.is w.below-is (w.saturating_add-in-Write.ensures ∙ ap (λ x. moved x w.in-Write.start) c.shift-shift.ensures)
      | in_default w ↦ same_down by f _ n w.below-is w.in_default.not-Read w.in_default.not-Write
    ] in
    let back_is = placed_by _ _ _ _ (λ d e post. search rules) c.map_err.ensures.cases ∙ ap (λ p. placed p c.send.result) (c.place-place.ensures n) in
    let below = sent_below _ _ w.hidden _ _ c.args.gap (sent f n) _ _ _ _ _ below_is back_is c.send.ensures.own c.send.ensures.does in
    record {
      own = (refl, below);
      does = does_above w.hidden m _ w.page_left _ c.args.gap (sent f n) _ _ below.answer _ below.comes_back below.sends.does;
      same = (refl, c.send.ensures.same);
    }
