-- Masks: one bit for each byte of a write, lowest bit first; a set bit means that it is not written. Assumes nothing.
use Rattle.std.specs.Prelude.{◌≡◌, ℕ, zero, suc, ◌+◌, ◌*◌, ◌/◌, ◌%◌, ◌^◌, ◌≤◌, Bool, IsTrue, if◌then◌else◌, List, ◌==◌, slice_index}

-- the bytes of a mask for n bytes
abbrev pub size : ℕ → ℕ
size n = (n + 7) / 8

-- byte i of the write is masked; past the mask's end nothing is
abbrev pub masked : List ℕ → ℕ → Bool
masked mask i = slice_index mask (i / 8) / 2 ^ (i % 8) % 2 == 1

-- how many of the first n bytes are masked
abbrev pub masked_among : List ℕ → ℕ → ℕ
masked_among mask zero = 0
masked_among mask (suc n) = masked_among mask n + (if masked mask n then 1 else 0)

-- a byte at or past n is masked
abbrev pub MasksPast : List ℕ → ℕ → Type 0
MasksPast mask n = (i : ℕ) × (n ≤ i) × IsTrue (masked mask i)

-- a bit of byte k of a mask is set that is at or past bit n of the mask
abbrev pub HasBitPast : ℕ → ℕ → ℕ → Type 0
HasBitPast byte k n = (j : ℕ) × (n ≤ 8 * k + j) × (byte / 2 ^ j % 2 ≡ 1)
