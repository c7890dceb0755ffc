use Rattle.std.proofs.Common.{◌≡◌, take}
use Rattle.frame.specs.Low.{low_clocks_of, saturated}
use Rattle.frame.proofs.low.low_clocks_of.Given as goal

abbrev pub invariant-loop-frame : goal.invariant-loop-frame
invariant-loop-frame l = l.sum ≡ saturated (low_clocks_of (take l.frame-index l.frames))
