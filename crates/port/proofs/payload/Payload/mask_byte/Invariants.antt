use Rattle.std.proofs.Common.{◌≡◌, ◌+◌, ◌-◌, ◌*◌}
use Rattle.port.specs.Plans.{bits_from}
use Rattle.port.specs.Payloads.{masks_in}
use Rattle.port.proofs.payload.Payload.mask_byte.Given as goal

abbrev pub invariant-loop-j : goal.invariant-loop-j
invariant-loop-j l = l.byte ≡ bits_from (masks_in l.self l.piece) (8 * l.k + 8 - l.j) l.j
