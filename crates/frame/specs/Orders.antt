-- What is true of the addresses of every burst from a start. Assumes nothing.
use Rattle.std.specs.Prelude.{◌≡◌, ℕ, ◌+◌, ◌/◌, ◌<◌, ◌≤◌}
use Rattle.frame.specs.Bursts.{bytes, base, burst_address}
use Rattle.frame.specs.Pages.{page}
use Rattle.frame.specs.declared.burst.Block.{Block}
use Rattle.frame.specs.declared.burst.Burst.{Burst}
use Rattle.frame.specs.declared.burst.Burst.TheVariants.{Wrapped, Hybrid}
use Rattle.frame.specs.declared.make.Make.{Make}

-- the first b addresses of a burst are those of the block of b bytes that s lies in, each of them once
pub record Permutes (b s : ℕ) (address : ℕ → ℕ) : Type 0 where
  pub inside : (i : ℕ) → i < b → address i / b ≡ s / b
  pub apart : (i j : ℕ) → i < b → j < b → address i ≡ address j → i ≡ j
  pub each : (a : ℕ) → a / b ≡ s / b → (i : ℕ) × (i < b) × (address i ≡ a)

-- behind the block of b bytes the addresses go on at base + b, up to the end of the page of p bytes
abbrev pub GoesOnBehind : ℕ → ℕ → ℕ → (ℕ → ℕ) → Type 0
GoesOnBehind b p s address = (i : ℕ) → b ≤ i → base b s + i < base p s + p → address i ≡ base b s + i

pub record IsBurstOrder (make : Make) (s : ℕ) : Type 0 where
  -- no burst leaves the page of its start
  pub stays : (burst : Burst) (i : ℕ) → burst_address make burst s i / page make ≡ s / page make
  -- a wrapped burst goes once through its block in the first turn
  pub permutes : (block : Block) → Permutes (bytes make block) s (burst_address make (Wrapped block) s)
  -- a hybrid burst goes on behind its block
  pub goes_on : (block : Block) → GoesOnBehind (bytes make block) (page make) s (burst_address make (Hybrid block) s)
