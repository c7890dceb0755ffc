-- The mask that a test of byte numbers gives: it masks the bytes of which the test holds.
use Rattle.std.proofs.Common.{◌≡◌, ℕ, zero, suc, ◌+◌, ◌*◌, ◌/◌, ◌%◌, ◌^◌, ◌<◌, Bool, true, false, if◌then◌else◌, ◌&&◌, ◌==◌, get_or, sym, refl, ap, ◌∙◌, arith}
use Rattle.std.specs.Prelude.{nat_lt}
use Rattle.std.proofs.Math.Nat.{div-div-eq-div-mul, pow-succ'}
use Rattle.std.proofs.lemmas.Bool.{lt-ltb}
use Rattle.std.proofs.lemmas.List.FromFn.{get_or-map-range_with_len}
use Rattle.mask.specs.Masks.{size, masked}
use Rattle.port.specs.Plans.{bits_from, mask_by}

-- 1 where a test holds, else 0
abbrev bit : Bool → ℕ
bit b = if b then 1 else 0

-- it is 1 exactly where the test holds
bit_is_one : (b : Bool) → (bit b == 1) ≡ b
bit_is_one true = refl
bit_is_one false = refl

-- the lowest bit of a number
lowest : (b : Bool) (n : ℕ) → (bit b + 2 * n) % 2 ≡ bit b
lowest true n = omega arith
lowest false n = omega arith

-- the bits above it
above : (b : Bool) (n : ℕ) → (bit b + 2 * n) / 2 ≡ n
above true n = omega arith
above false n = omega arith

-- the bits above the lowest, from bit j on
shifted : (n j : ℕ) → n / 2 ^ suc j ≡ n / 2 / 2 ^ j
shifted n j = ap (λ w. n / w) (pow-succ' 2 j) ∙ sym (div-div-eq-div-mul n 2 (2 ^ j))

-- bit j of a number made of bits
bit_of : (test : ℕ → Bool) (i n j : ℕ) → j < n → bits_from test i n / 2 ^ j % 2 ≡ bit (test (i + j))
bit_of test i zero j h = absurd (omega arith)
bit_of test i (suc n) zero h =
    let one : bits_from test i (suc n) / 1 ≡ bits_from test i (suc n) = omega arith in
    let here : i ≡ i + 0 = omega arith in
    ap (λ w. w % 2) one ∙ lowest (test i) (bits_from test (i + 1) n) ∙ ap (λ k. bit (test k)) here
bit_of test i (suc n) (suc j) h =
    let rest = bits_from test (i + 1) n in
    let up = shifted (bits_from test i (suc n)) j ∙ ap (λ w. w / 2 ^ j) (above (test i) rest) in
    let there : i + 1 + j ≡ i + suc j = omega arith in
    ap (λ w. w % 2) up ∙ bit_of test (i + 1) n j (omega arith) ∙ ap (λ k. bit (test k)) there

-- of the mask of n bytes, bit i is set where the test holds of i, and none is past n
abbrev in_mask : (ℕ → Bool) → ℕ → ℕ → Bool
in_mask test n i = nat_lt i n && test i

-- a byte of the mask
mask_byte : (test : ℕ → Bool) (n k : ℕ) → k < size n
    → get_or (mask_by test n) k 0 ≡ bits_from (in_mask test n) (8 * k) 8
mask_byte test n k h =
    get_or-map-range_with_len (λ j. bits_from (in_mask test n) (8 * j) 8) 0 (size n) k k 0 h (omega arith)

-- byte i of n, by the mask of a test
pub masked_by : (test : ℕ → Bool) (n i : ℕ) → i < n → masked (mask_by test n) i ≡ test i
masked_by test n i h =
    let k = i / 8 in
    let j = i % 8 in
    let whole : 8 * k + j ≡ i = omega arith in
    let is = ap (λ w. w / 2 ^ j % 2) (mask_byte test n k (omega arith))
    ∙ bit_of (in_mask test n) (8 * k) 8 j (omega arith) in
    ap (λ w. w == 1) is ∙ bit_is_one (in_mask test n (8 * k + j)) ∙ ap (in_mask test n) whole
    ∙ ap (λ below. below && test i) (lt-ltb i n h)
