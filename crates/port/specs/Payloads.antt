-- Which bytes the frame of a piece of a write masks. Assumes nothing.
use Rattle.std.specs.Prelude.{ℕ, ◌+◌, ◌-◌, Bool, ◌&&◌, nat_lt}
use Rattle.frame.specs.declared.span.Span.{Span}
use Rattle.port.specs.Plans.{masks}
use Rattle.port.specs.declared.payload.Payload.{Payload}

-- bit i of the mask of a piece
abbrev pub masks_in : Payload → Span → ℕ → Bool
masks_in p piece i = nat_lt i (piece.to - piece.from) && masks p.start p.«data».now p.mask.now (piece.from + i)
