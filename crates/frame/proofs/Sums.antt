-- A sum of low clocks, which stays at 2 ^ 64 - 1, one frame further on. Assumes nothing.
use Rattle.std.proofs.Common.{◌≡◌, ℕ, ◌+◌, ◌-◌, ◌^◌, ◌<◌, min, List, length, get_or, take, arith}
use Rattle.std.proofs.lemmas.List.Sums.{sum_by_more}
use Rattle.frame.specs.Low.{low_clocks, low_clocks_of, saturated}
use Rattle.frame.specs.declared.low.Transfer.{Transfer}

pub sum_more : (xs : List Transfer) (i : ℕ) (d : Transfer) (sum low next : ℕ) → i < length xs → sum ≡ saturated (low_clocks_of (take i xs)) → low ≡ low_clocks (get_or xs i d) → next ≡ min (sum + low) (2 ^ 64 - 1) → next ≡ saturated (low_clocks_of (take (i + 1) xs))
sum_more xs i d sum low next h was is then = omega (arith, sum_by_more low_clocks xs i d h)
