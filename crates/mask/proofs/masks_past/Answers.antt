use Rattle.std.proofs.Common.{get_or, refl, sym, ◌∙◌, arith}
use Rattle.std.proofs.lemmas.Bool.{true≢false}
use borrow.Author.Count.{below_more}
use Rattle.mask.specs.Masks.{HasBitPast}
use Rattle.mask.proofs.Bits.{some_past, none_masked_past}
use Rattle.mask.proofs.masks_past.Goals as goal

pub loop-k-preserved : goal.loop-k-preserved
loop-k-preserved c =
    below_more (λ q. HasBitPast (get_or c.args.mask.now q 0) q c.args.count → ⊥) _ c.loop-k.invariant
    (λ bit. true≢false (sym (c.has_bit_past.ensures.1 bit) ∙ c.if-has_bit_past.false))

pub returns-then-has_bit_past : goal.returns-then-has_bit_past
returns-then-has_bit_past c = (
  λ _. some_past _ c.loop-k.k _ (c.type_inv.mask _).fits (c.has_bit_past.ensures.0 c.if-has_bit_past.true),
  λ _. refl,
)

pub returns : goal.returns
returns c = (
  λ e. absurd (true≢false (sym e)),
  λ past. absurd (none_masked_past _ _ (λ k h. c.loop-k.invariant k (omega arith)) past),
)
