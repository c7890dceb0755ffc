-- What a write leaves in a store: of the unmasked bytes that come to an address, the last. Assumes nothing.
use Rattle.std.specs.Prelude.{◌≡◌, ℕ, ◌<◌, false, List, length, ◌≢◌, slice_index}
use Rattle.mask.specs.Masks.{masked}
use Rattle.model.specs.Store.{written_store}

-- the first n bytes of d, each to its place, with a mask
pub record LastWriteWins (place : ℕ → ℕ) (d mask store : List ℕ) (n : ℕ) (after : List ℕ) : Type 0 where
  pub long : length after ≡ length store
  -- an unmasked byte is where it came to, unless a later one came there
  pub last : (i : ℕ) → i < n → masked mask i ≡ false → place i < length store
      → ((j : ℕ) → i < j → j < n → masked mask j ≡ false → place j ≢ place i)
      → slice_index after (place i) ≡ slice_index d i
  -- where no unmasked byte came to, all is as it was
  pub others : (a : ℕ) → ((i : ℕ) → i < n → masked mask i ≡ false → place i ≢ a)
      → slice_index after a ≡ slice_index store a

-- so it is of every write that a model stores
abbrev pub WritesWin : Type 0
WritesWin =
    (place : ℕ → ℕ) (d mask store : List ℕ) (n : ℕ)
    → LastWriteWins place d mask store n (written_store place d mask n store)
