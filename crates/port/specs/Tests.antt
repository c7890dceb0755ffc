-- Tests of ranges, lines and masks, as a port makes them before it sends anything. Assumes nothing.
use Rattle.std.specs.Prelude.{ℕ, zero, suc, ◌+◌, ◌-◌, ◌*◌, ◌%◌, Bool, true, not, ◌&&◌, ◌||◌, List, length, ◌==◌, nat_lt}
use Rattle.mask.specs.Masks.{size as mask_size, masked}

-- a test holds of each of so many numbers from one on
abbrev pub each_from : (ℕ → Bool) → ℕ → ℕ → Bool
each_from test a zero = true
each_from test a (suc n) = each_from test a n && test (a + n)

-- the most bytes of a read or a write
abbrev pub longest : ℕ
longest = 4096

abbrev pub bad_length : ℕ → Bool
bad_length n = n == 0 || nat_lt longest n

-- the lengths of cache lines
abbrev pub is_line : ℕ → Bool
is_line n = n == 16 || (n == 32 || n == 64)

-- a fill of n bytes from a: no line has n bytes, or a is odd
abbrev pub bad_fill : ℕ → ℕ → Bool
bad_fill a n = not (is_line n) || a % 2 == 1

-- a mask of a write of n bytes: its size is not that of n bytes, or a bit at or past n is set
abbrev pub bad_mask : List ℕ → ℕ → Bool
bad_mask mask n =
    not (length mask == mask_size n)
    || not (each_from (λ i. not (masked mask i)) n (8 * length mask - n))
