use Rattle.std.proofs.Common.{◌≡◌, ◌++◌, string_bytes}
use Rattle.std.specs.List.{flat_map}
use Rattle.run_script.proofs.Pairs.{pair_line}
use Rattle.run_script.proofs.lines.put_lines.Given as goal

abbrev pub invariant-loop-placed : goal.invariant-loop-placed
invariant-loop-placed l =
    string_bytes l.text
    ≡ string_bytes l.initial.text ++ flat_map (λ p. pair_line (p.0.now, p.1.now)) l.yielded
