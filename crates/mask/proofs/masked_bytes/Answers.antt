use Rattle.std.proofs.Common.{◌≡◌, ◌*◌, length, ap, ◌∙◌, arith}
use Rattle.frame.specs.Low.{saturated}
use Rattle.mask.specs.Masks.{masked_among}
use Rattle.mask.proofs.Bits.{count_more, all_among}
use Rattle.mask.proofs.masked_bytes.Goals as goal

pub loop-byte-preserved : goal.loop-byte-preserved
loop-byte-preserved c = count_more _ _ _ _ _ (c.type_inv.mask _).fits c.loop-byte.invariant c.from.ensures c.saturating_add-count.ensures

pub returns : goal.returns
returns c =
    let whole : c.loop-byte.byte-index ≡ length c.args.mask.now = omega arith in
    let all = c.loop-byte.invariant ∙ ap (λ i. saturated (masked_among c.args.mask.now (8 * i))) whole in
    record { value = all; among = λ n none. all ∙ ap saturated (all_among _ n none) }
