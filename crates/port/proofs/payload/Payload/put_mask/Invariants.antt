use Rattle.std.proofs.Common.{◌≡◌, ℕ, ◌*◌, ◌<◌, get_or}
use Rattle.port.specs.Plans.{bits_from}
use Rattle.port.specs.Payloads.{masks_in}
use Rattle.port.proofs.payload.Payload.put_mask.Given as goal

abbrev pub invariant-loop-k : goal.invariant-loop-k
invariant-loop-k l =
    (j : ℕ) → j < l.k → get_or l.mask j 0 ≡ bits_from (masks_in l.self l.piece) (8 * j) 8
