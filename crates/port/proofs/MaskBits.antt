-- Bits as a number, the lowest first.
use mir.Val.{bool_byte}
use Rattle.std.proofs.Common.{refl, ◌≡◌, ℕ, zero, suc, ◌+◌, ◌*◌, ◌^◌, ◌<◌, ◌≤◌, Bool, true, false, if◌then◌else◌, ap, arith, add-one}
use Rattle.std.proofs.Math.Pow.{pow_mono}
use Rattle.port.specs.Plans.{bits_from}

-- a bit is 1 at most
bit_most : (b : Bool) → (if b then 1 else 0) ≤ 1
bit_most true = omega arith
bit_most false = omega arith

-- one bit more, at the low end
pub bits_from-one : (test : ℕ → Bool) (i n : ℕ)
    → bits_from test i (n + 1) ≡ (if test i then 1 else 0) + 2 * bits_from test (i + 1) n
bits_from-one test i n = ap (bits_from test i) (add-one n)

-- so many bits are below that power of two
bits_lt_pow : (test : ℕ → Bool) (i n : ℕ) → bits_from test i n < 2 ^ n
bits_lt_pow test i zero = omega arith
bits_lt_pow test i (suc n) = omega (arith, bits_lt_pow test (i + 1) n, bit_most (test i))

-- seven bits and fewer are below 128
pub bits_below : (test : ℕ → Bool) (i n : ℕ) → n ≤ 7 → bits_from test i n < 128
bits_below test i n few = omega (arith, bits_lt_pow test i n, pow_mono {i = n} {j = 7} few)

-- a bool as a byte
pub bool_byte_is : (b : Bool) → bool_byte b ≡ (if b then 1 else 0)
bool_byte_is true = refl
bool_byte_is false = refl

-- which is 1 at most
pub bool_byte_most : (b : Bool) → bool_byte b ≤ 1
bool_byte_most true = omega arith
bool_byte_most false = omega arith
