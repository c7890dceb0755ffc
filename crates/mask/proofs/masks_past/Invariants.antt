use Rattle.std.proofs.Common.{ℕ, ◌<◌, get_or}
use Rattle.mask.specs.Masks.{HasBitPast}
use Rattle.mask.proofs.masks_past.Given as goal

abbrev pub invariant-loop-k : goal.invariant-loop-k
invariant-loop-k l = (q : ℕ) → q < l.k → ¬ HasBitPast (get_or l.mask q 0) q l.count
