use Rattle.std.proofs.Common.{◌≡◌, map, take}
use Rattle.script.specs.Scripts.{placed_instructions}
use Rattle.runs.specs.Serving.{asked}
use Rattle.run_script.specs.Sessions.{asked_by_all}
use Rattle.run_script.proofs.asking.calls.Given as goal

abbrev pub invariant-loop-placed : goal.invariant-loop-placed
invariant-loop-placed l =
    map asked l.calls.items ≡ asked_by_all (placed_instructions (take l.placed-index l.commands))
