use Rattle.std.proofs.Common.{◌≤◌, length, ap, ◌∙◌, arith}
use Rattle.std.proofs.lemmas.List.{take_all}
use Rattle.frame.specs.Low.{low_clocks_of, saturated}
use Rattle.frame.proofs.Sums.{sum_more}
use Rattle.frame.proofs.low.low_clocks_of.Goals as goal

pub loop-frame-preserved : goal.loop-frame-preserved
loop-frame-preserved c = sum_more _ _ _ _ _ _ c.loop-frame-test.true c.loop-frame.invariant c.low_clocks.ensures c.saturating_add-sum.ensures

pub returns : goal.returns
returns c =
    let whole : length c.args.frames.now ≤ c.loop-frame.frame-index = omega arith in
    c.loop-frame.invariant ∙ ap (λ frames. saturated (low_clocks_of frames)) (take_all _ _ whole)
