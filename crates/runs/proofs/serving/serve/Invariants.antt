use Rattle.std.proofs.Common.{take}
use Rattle.port.specs.Serves.{woken}
use Rattle.runs.specs.Serving.{ServesAll}
use Rattle.runs.proofs.serving.serve.Given as goal

-- the first calls were served
abbrev pub invariant-loop-call : goal.invariant-loop-call
invariant-loop-call g l =
    ServesAll g.C.Chip.meaning g.C.Chip.gives (woken l.fn.port.chip l.fn.port.lost) (take l.call-index l.calls)
    l.fn.responses.items l.responses.items (woken l.port.chip l.port.lost)
    × g.C.Chip.same_config l.fn.port.chip l.port.chip
