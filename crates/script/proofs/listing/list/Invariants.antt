use Rattle.std.proofs.Common.{◌+◌, ◌≤◌, length, vec_items, vec_len, vec_capacity}
use Rattle.script.proofs.Scripts.{Filling}
use Rattle.script.proofs.listing.list.Given as goal

abbrev pub invariant-loop-rest : goal.invariant-loop-rest
invariant-loop-rest g l =
    Filling l.script (vec_items l.initial.commands) (vec_items l.commands) l.rest
    × (vec_len l.commands + length l.rest ≤ vec_len l.initial.commands + length l.script)
    × (vec_capacity l.initial.commands ≤ vec_capacity l.commands)

abbrev pub decreases-loop-rest : goal.decreases-loop-rest
decreases-loop-rest g l = length l.rest
