use Rattle.std.proofs.Common.{◌≡◌, ◌++◌, ◌∙◌, ap, string_bytes}
use Rattle.std.specs.Slice.Iter.{iter_rest}
use Rattle.std.proofs.lemmas.Iterator.{YieldsList-from_slice, YieldsList-from_zip}
use Rattle.std.proofs.lemmas.Iterator.Consumers.{YieldsList-at, YieldsList-end}
use Rattle.run_script.proofs.Pairs.{lines_of_pairs}
use Rattle.run_script.proofs.lines.put_lines.Goals as goal

pub returns : goal.returns
returns c =
    let first = YieldsList-from_slice c.args.commands.now c.iter.ensures.rest in
    let rest : iter_rest c.zip-placed-items.result.b ≡ c.args.responses.now = c.zip-placed-items.ensures.second.0 in
    let second = YieldsList-from_slice c.args.responses.now rest in
    let road = YieldsList-from_zip (YieldsList-at c.zip-placed-items.ensures.first first) second in
    let from = YieldsList-at c.into_iter-placed-iterator.ensures.into_iter_gives road in
    let t =
    YieldsList-end from c.loop-placed.yielded _ c.loop-placed.yielded_by _ c.next.new.self c.in-None.is
    c.next.ensures.steps in
    c.loop-placed.invariant
    ∙ ap (λ more. string_bytes c.args.text.now ++ more)
    (lines_of_pairs (λ p. (p.0.now, p.1.now)) c.args.commands.now c.args.responses.now c.loop-placed.yielded t.0)
