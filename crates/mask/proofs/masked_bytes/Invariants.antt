use Rattle.std.proofs.Common.{◌≡◌, ◌*◌}
use Rattle.frame.specs.Low.{saturated}
use Rattle.mask.specs.Masks.{masked_among}
use Rattle.mask.proofs.masked_bytes.Given as goal

abbrev pub invariant-loop-byte : goal.invariant-loop-byte
invariant-loop-byte l = l.count ≡ saturated (masked_among l.mask (8 * l.byte-index))
