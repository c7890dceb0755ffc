use Rattle.std.proofs.Common.{◌≡◌, ℕ, ◌+◌, ◌<◌, get_or}
use Rattle.port.specs.Plans.{byte_for}
use Rattle.port.proofs.payload.Payload.put_data.Given as goal

abbrev pub invariant-loop-i : goal.invariant-loop-i
invariant-loop-i l =
    (k : ℕ) → k < l.i → get_or l.bytes k 0 ≡ byte_for l.self.start l.self.«data».now (l.piece.from + k)
