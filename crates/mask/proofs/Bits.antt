-- The bits of a mask: their number, and whether one is set past a length. Assumes nothing.
use Rattle.std.proofs.Common.{◌≡◌, ℕ, zero, suc, ◌+◌, ◌-◌, ◌*◌, ◌/◌, ◌%◌, ◌^◌, ◌<◌, ◌≤◌, ◌↔◌, min, Bool, true, false, not, IsTrue, cond, eqb, List, length, get_or, sym, refl, ap, ◌∙◌, inl, inr, ⊎_elim, add-zero, add-suc, pos_of_ne-zero, one-add, arith, pow_mono, pow-add}
use native.Mathlib.Nat.{zero-div, div-eq_of_lt}
use lib.Arith.{bin_ind}
use lib.Count.{ones, ones_step, ones-le}
use Rattle.std.proofs.lemmas.Nat.{shr-shr}
use Rattle.std.proofs.lemmas.List.{get_or_past}
use Rattle.std.proofs.lemmas.Bool.{true≢false, cases_lt, cases_eq, cond-false, eq-eqb, ne_eqb, eqb-true}
use Rattle.std.proofs.lemmas.Bool.Decides.{nat_tests}
use Rattle.frame.specs.Low.{saturated}
use Rattle.mask.specs.Masks.{masked, masked_among, MasksPast, HasBitPast}

-- past the mask's end nothing is masked
pub unmasked_past_end : (mask : List ℕ) (i : ℕ) → length mask ≤ i / 8 → masked mask i ≡ false
unmasked_past_end mask i h = ap (λ b. eqb (b / 2 ^ (i % 8) % 2) 1) (get_or_past mask (i / 8) 0 h) ∙ ap (λ x. eqb (x % 2) 1) (zero-div (2 ^ (i % 8)))

-- how many of the low k bits of b are set
bits : ℕ → ℕ → ℕ
bits b zero = 0
bits b (suc k) = bits b k + b / 2 ^ k % 2

halved : (b k : ℕ) → b / 2 ^ suc k ≡ b / 2 / 2 ^ k
halved b k = ap (λ n. b / 2 ^ n) (sym (one-add k)) ∙ sym (shr-shr b 1 k)

bits_halved : (b k : ℕ) → bits b (suc k) ≡ b % 2 + bits (b / 2) k
unfolding bits
bits_halved b zero = omega arith
bits_halved b (suc k) = omega (arith, bits_halved b k, ap (λ n. n % 2) (halved b k))

below_half : (b k : ℕ) → b < 2 ^ suc k → b / 2 < 2 ^ k
below_half b k h = omega (arith, ap (λ n. 2 ^ n) (sym (one-add k)) ∙ pow-add 2 1 k)

-- the ones of a number are its set bits
ones_bits : (k b : ℕ) → b < 2 ^ k → ones b ≡ bits b k
unfolding bits
ones_bits zero b h = omega (arith, ones-le 0 b h)
ones_bits (suc k) b h = omega (arith, ones_step b, ones_bits k (b / 2) (below_half b k h), bits_halved b k)

as_number : (x : ℕ) → x < 2 → cond (eqb x 1) 1 0 ≡ x
as_number x h = grind (arith, nat_tests)

-- one bit further on
bit_more : (mask : List ℕ) (i j : ℕ) → j < 8 → masked_among mask (suc (8 * i + j)) ≡ masked_among mask (8 * i + j) + get_or mask i 0 / 2 ^ j % 2
bit_more mask i j h =
    let at : (8 * i + j) / 8 ≡ i = omega arith in
    let bit : (8 * i + j) % 8 ≡ j = omega arith in
    ap (λ x. masked_among mask (8 * i + j) + x) (as_number _ (omega arith) ∙ cc)

among_bits : (mask : List ℕ) (i j : ℕ) → j ≤ 8 → masked_among mask (8 * i + j) ≡ masked_among mask (8 * i) + bits (get_or mask i 0) j
unfolding bits
among_bits mask i zero h = ap (masked_among mask) (add-zero (8 * i)) ∙ sym (add-zero _)
among_bits mask i (suc j) h =
    ap (masked_among mask) (add-suc (8 * i) j) ∙ omega (arith, bit_more mask i j (omega arith), among_bits mask i j (omega arith))

-- one byte further on, where the count stays at 2 ^ 64 - 1
pub count_more : (mask : List ℕ) (i count ones' next : ℕ) → get_or mask i 0 < 256 → count ≡ saturated (masked_among mask (8 * i)) → ones' ≡ ones (get_or mask i 0) → next ≡ min (count + ones') (2 ^ 64 - 1) → next ≡ saturated (masked_among mask (8 * (i + 1)))
count_more mask i count ones' next small was is then =
    let whole : masked_among mask (8 * (i + 1)) ≡ masked_among mask (8 * i + 8) = ap (masked_among mask) (omega arith) in
    omega (arith, ones_bits 8 (get_or mask i 0) small, among_bits mask i 8 (omega arith))

-- a number that is not 0 has a set bit
some_bit : (n : ℕ) → 0 < n → (j : ℕ) × (n / 2 ^ j % 2 ≡ 1)
some_bit = bin_ind (λ n. 0 < n → (j : ℕ) × (n / 2 ^ j % 2 ≡ 1)) (λ h. absurd (omega arith)) step
  where
    step : (n : ℕ) → (0 < n / 2 → (j : ℕ) × (n / 2 / 2 ^ j % 2 ≡ 1)) → 0 < n → (j : ℕ) × (n / 2 ^ j % 2 ≡ 1)
    step n more h =
        ⊎_elim
        (λ odd. (0, omega arith))
        (λ even. let rest = more (omega arith) in (suc rest.0, ap (λ x. x % 2) (halved n rest.0) ∙ rest.1))
        (cases_eq (n % 2) 1)

-- a number below 2 ^ k has no set bit from k on
high_bits : (k n j : ℕ) → n < 2 ^ k → k ≤ j → n / 2 ^ j ≡ 0
high_bits k n j small h = let up : 2 ^ k ≤ 2 ^ j = pow_mono h in div-eq_of_lt (omega arith)

set_at : (mask : List ℕ) (k j : ℕ) → j < 8 → get_or mask k 0 / 2 ^ j % 2 ≡ 1 → masked mask (8 * k + j) ≡ true
set_at mask k j h one =
    let at : (8 * k + j) / 8 ≡ k = omega arith in
    let bit : (8 * k + j) % 8 ≡ j = omega arith in
    let same : get_or mask ((8 * k + j) / 8) 0 / 2 ^ ((8 * k + j) % 8) % 2 ≡ 1 = rw (at, bit) one in
    eq-eqb _ 1 same

-- a set bit is among the eight of its byte
low_bit : (byte j : ℕ) → byte < 256 → byte / 2 ^ j % 2 ≡ 1 → j < 8
low_bit byte j small one =
    ⊎_elim
    (λ low. low)
    (λ high. absurd (omega (arith, ap (λ x. x % 2) (high_bits 8 byte j small high))))
    (cases_lt j 8)

-- a byte that ends at or before bit n has no bit past it
none_below : (byte k n : ℕ) → byte < 256 → k < n / 8 → HasBitPast byte k n → ⊥
none_below byte k n small h (j, past, one) = omega (arith, low_bit byte j small one)

-- the byte that bit n is in has a bit past it where something is left of it
some_here : (byte k n : ℕ) → k ≡ n / 8 → 0 < byte / 2 ^ (n % 8) → HasBitPast byte k n
some_here byte k n here h =
    let bit = some_bit (byte / 2 ^ (n % 8)) h in
    (n % 8 + bit.0, omega arith, ap (λ x. x % 2) (sym (shr-shr byte (n % 8) bit.0)) ∙ bit.1)

none_here : (byte k n : ℕ) → byte < 256 → k ≡ n / 8 → byte / 2 ^ (n % 8) ≡ 0 → HasBitPast byte k n → ⊥
none_here byte k n small here none (j, past, one) =
    let low = low_bit byte j small one in
    let parts : n % 8 + (j - n % 8) ≡ j = omega arith in
    let clear : byte / 2 ^ j ≡ 0 =
    ap (λ x. byte / 2 ^ x) (sym parts) ∙ sym (shr-shr byte (n % 8) (j - n % 8)) ∙ ap (λ x. x / 2 ^ (j - n % 8)) none
    ∙ zero-div (2 ^ (j - n % 8))
    in
    omega (arith, ap (λ x. x % 2) clear)

-- of a byte behind it, every bit is past bit n
some_above : (byte k n : ℕ) → n / 8 < k → 0 < byte → HasBitPast byte k n
some_above byte k n above h = let bit = some_bit byte h in (bit.0, omega arith, bit.1)

none_of_zero : (byte k n : ℕ) → byte ≡ 0 → HasBitPast byte k n → ⊥
none_of_zero byte k n zero_is (j, past, one) =
    omega (arith, ap (λ x. x % 2) (ap (λ x. x / 2 ^ j) zero_is ∙ zero-div (2 ^ j)))

-- a test for 0 says that there is a bit, where a number that is not 0 has one and 0 has none
nonzero_is : {P : Type 0} (x : ℕ) → (0 < x → P) → (x ≡ 0 → P → ⊥) → IsTrue (not (eqb x 0)) ↔ P
nonzero_is x some none = elim (cases_eq x 0) [
  | inl is ↦
      let clear : not (eqb x 0) ≡ false = ap not (eq-eqb x 0 is) in
      (λ set. absurd (true≢false (sym set ∙ clear)), λ p. absurd (none is p))
  | inr is_not ↦ (λ set. some (pos_of_ne-zero is_not), λ p. ap not (ne_eqb x 0 is_not))
]

pub bit_past_below : (byte k n : ℕ) → byte < 256 → k < n / 8 → IsTrue false ↔ HasBitPast byte k n
bit_past_below byte k n small h = (λ set. absurd (true≢false (sym set)), λ bit. absurd (none_below byte k n small h bit))

pub bit_past_here : (byte k n : ℕ) → byte < 256 → k ≡ n / 8 → IsTrue (not (eqb (byte / 2 ^ (n % 8)) 0)) ↔ HasBitPast byte k n
bit_past_here byte k n small here = nonzero_is (byte / 2 ^ (n % 8)) (some_here byte k n here) (none_here byte k n small here)

pub bit_past_above : (byte k n : ℕ) → n / 8 < k → IsTrue (not (eqb byte 0)) ↔ HasBitPast byte k n
bit_past_above byte k n above = nonzero_is byte (some_above byte k n above) (none_of_zero byte k n)

-- where byte k has a bit past n, a byte at or past n is masked
pub some_past : (mask : List ℕ) (k n : ℕ) → get_or mask k 0 < 256 → HasBitPast (get_or mask k 0) k n → MasksPast mask n
some_past mask k n small (j, past, one) = (8 * k + j, past, set_at mask k j (low_bit _ j small one) one)

-- where no byte has a bit past n, no byte at or past n is masked
pub none_masked_past : (mask : List ℕ) (n : ℕ) → ((k : ℕ) → k < length mask → HasBitPast (get_or mask k 0) k n → ⊥) → MasksPast mask n → ⊥
none_masked_past mask n none (i, h, set) = elim (cases_lt (i / 8) (length mask)) [
  | inl within ↦ none (i / 8) within (i % 8, omega arith, eqb-true _ 1 set)
  | inr past ↦ true≢false (sym set ∙ unmasked_past_end mask i past)
]

unset : (b : Bool) → (b ≡ true → ⊥) → b ≡ false
unset true h = absurd (h refl)
unset false h = refl

-- where no byte at or past n is masked, counting further on finds none
no_more : (mask : List ℕ) (n d : ℕ) → ¬ MasksPast mask n → masked_among mask (n + d) ≡ masked_among mask n
no_more mask n zero none = ap (masked_among mask) (add-zero n)
no_more mask n (suc d) none =
    let clear : masked mask (n + d) ≡ false = unset _ (λ set. none (n + d, omega arith, set)) in
    ap (masked_among mask) (add-suc n d) ∙ omega (arith, cond-false {A = ℕ} (masked mask (n + d)) 1 0 clear, no_more mask n d none)

-- the masked bytes of a write are those of its mask, unless a bit is set past the write
pub all_among : (mask : List ℕ) (n : ℕ) → ¬ MasksPast mask n → masked_among mask (8 * length mask) ≡ masked_among mask n
all_among mask n none =
    ⊎_elim
    (λ h. ap (masked_among mask) (omega arith) ∙ no_more mask n (8 * length mask - n) none)
    (λ h. sym (ap (masked_among mask) (omega arith) ∙ no_more mask (8 * length mask) (n - 8 * length mask) (λ past. true≢false (sym past.2 ∙ unmasked_past_end mask past.0 (omega (arith, past.1))))))
    (cases_lt n (8 * length mask))
