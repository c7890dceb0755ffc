-- What hiding whole pages leaves of a size. Assumes nothing.
use Rattle.std.specs.Prelude.{ℕ, ◌-◌, ◌*◌, ◌<◌, ◌≤◌}
use Rattle.std.proofs.Common.{arith}
use Rattle.frame.specs.Pages.{page}
use Rattle.frame.specs.declared.make.Make.{Make}
use Rattle.frame.specs.declared.make.Make.TheVariants as make
use Rattle.chip.specs.Sizes.{largest_size}
use Rattle.chip.specs.declared.config.Config.{Config}

-- a page is left
pub page_left : (h : ℕ) (k : Config) → h < k.pages → 1 ≤ k.pages - h
page_left h k some = omega arith

fewer_pages : (m : Make) (pages h : ℕ) → pages * page m ≤ largest_size → (pages - h) * page m ≤ largest_size
fewer_pages make.A pages h most = omega arith
fewer_pages make.S pages h most = omega arith

-- and the rest is no larger than the whole
pub rest_fits : (h : ℕ) (k : Config) → (k.pages - h) * page k.make ≤ largest_size
rest_fits h k = fewer_pages k.make k.pages h k.within_16_mib
