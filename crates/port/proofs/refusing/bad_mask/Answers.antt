use Rattle.std.proofs.Common.{◌≡◌, true, not, ◌||◌, ◌==◌, ◌*◌, ◌-◌, length, sym, ap, ◌∙◌, arith}
use Rattle.mask.specs.Masks.{size, masked}
use Rattle.port.specs.Tests.{each_from}
use Rattle.port.proofs.Ranges.{masks_past_is}
use Rattle.port.proofs.refusing.bad_mask.Goals as goal

pub returns-else-mask-size : goal.returns-else-mask-size
returns-else-mask-size c =
    let mask = c.args.mask.now in
    let n = c.args.count in
    let fits : (length mask == size n) ≡ true = grind (arith, c.if-mask-size.false, c.size.ensures) in
    masks_past_is mask n c.masks_past.result c.masks_past.ensures
    ∙ sym (ap (λ b. not b || not (each_from (λ i. not (masked mask i)) n (8 * length mask - n))) fits)
