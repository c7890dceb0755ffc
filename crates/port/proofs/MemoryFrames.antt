-- The frame of a piece: that a ready chip takes it, and its answer.
use Rattle.std.proofs.Common.{◌≡◌, ℕ, ◌+◌, ◌*◌, ◌%◌, ◌<◌, ◌≤◌, ◌/◌, not, List, length, refl, sym, ap, subst, arith}
use Rattle.std.proofs.lemmas.Bool.{or_from, ne_eqb, eq-eqb, lt-leb, le-ltb}
use Rattle.clock.specs.Times.{clocks}
use Rattle.frame.specs.declared.burst.Burst.TheVariants.{Linear}
use Rattle.frame.specs.declared.make.Make.{Make}
use Rattle.frame.specs.declared.make.Make.TheVariants as make
use Rattle.frame.specs.Pages.{page}
use Rattle.mask.specs.Masks.{size as mask_size}
use Rattle.chip.specs.Meaning.{Meaning, size, most_low, read_latency, write_latency}
use Rattle.chip.specs.Sent.{read, write}
use Rattle.chip.specs.declared.config.Config.{Config}
use Rattle.split.specs.declared.direction.Direction.TheVariants.{Read, Write}
use Rattle.port.specs.Carried.{IsFit}
use Rattle.port.specs.Wakes.{IsReady}
use Rattle.port.proofs.Pieces.{most_of}
use Rattle.port.proofs.Sends.{fit}

-- whole pages are an even number of bytes
even_pages : (make : Make) (pages : ℕ) → pages * page make % 2 ≡ 0
even_pages make.A pages = omega arith
even_pages make.S pages = omega arith

-- so is the size of a chip
pub even_size : (k : Config) → size k % 2 ≡ 0
even_size k = even_pages k.make k.pages

-- what a ready chip takes, from an even start in it
module _ (m : Meaning) (s : ℕ) (ready : IsReady m) (even : s % 2 ≡ 0) (inside : s < size m.config) where
  -- a read with some bytes, that keeps tCEM with 2 LC
  pub fit_read : (n : ℕ) → 0 < n → n ≤ most_of Read m.config → IsFit m (read Linear s n)
  fit_read n some short =
      let low : 3 + 2 * clocks (read_latency m.state) + (n + 1) / 2 ≤ most_low m.config =
      subst (λ l. 3 + 2 * clocks l + (n + 1) / 2 ≤ most_low m.config) (sym ready.reads) (omega arith) in
      fit m (read Linear s n) ready.awake refl
      (or_from _ _ (ne_eqb (s % 2) 1 (λ (odd : s % 2 ≡ 1). omega arith)) (lt-leb _ _ inside))
      (ne_eqb n 0 (λ (none : n ≡ 0). omega arith)) (le-ltb _ _ low) refl

  -- a write with some bytes, an even number of them and the mask of so many, that keeps tCEM
  pub fit_write : (bytes mask : List ℕ) → 0 < length bytes → length bytes % 2 ≡ 0
      → length mask ≡ mask_size (length bytes) → length bytes ≤ most_of Write m.config
      → IsFit m (write Linear s bytes mask)
  fit_write bytes mask some whole same short =
      let low : 3 + clocks (write_latency m.state) + (length bytes + 1) / 2 ≤ most_low m.config =
      subst (λ l. 3 + clocks l + (length bytes + 1) / 2 ≤ most_low m.config) (sym ready.writes) (omega arith) in
      fit m (write Linear s bytes mask) ready.awake refl
      (or_from _ _ (ne_eqb (s % 2) 1 (λ (odd : s % 2 ≡ 1). omega arith)) (lt-leb _ _ inside))
      (or_from _ _ (ne_eqb (length bytes) 0 (λ (none : length bytes ≡ 0). omega arith))
      (or_from _ _ (ne_eqb (length bytes % 2) 1 (λ (odd : length bytes % 2 ≡ 1). omega arith))
      (ap not (eq-eqb _ _ same)))) (le-ltb _ _ low) refl
