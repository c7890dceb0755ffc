use Rattle.std.proofs.Common.{arith}
use Rattle.mask.proofs.Bits.{bit_past_below, bit_past_here, bit_past_above}
use Rattle.mask.proofs.has_bit_past.Goals as goal

pub returns-then-k-count : goal.returns-then-k-count
returns-then-k-count c = bit_past_below _ _ _ c.ranges.byte.fits c.if-k-count.true

pub returns-then-k-count-2 : goal.returns-then-k-count-2
returns-then-k-count-2 c = bit_past_here _ _ _ c.ranges.byte.fits c.if-k-count-2.true

pub returns-else-k-count-2 : goal.returns-else-k-count-2
returns-else-k-count-2 c = bit_past_above _ _ _ (omega arith)
