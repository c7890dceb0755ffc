-- Hexadecimal digits, as they are written: each takes one byte, and has its value. Assumes nothing.
use Rattle.std.proofs.Common.{◌≡◌, ℕ, ◌+◌, ◌*◌, ◌/◌, ◌%◌, ◌<◌, true, [], ◌∷◌, ◌++◌, nat_lt, refl, ap, ◌∙◌, arith}
use Rattle.std.specs.Prelude.{◌==◌}
use lib.Utf8.{encode}
use Rattle.std.proofs.lemmas.Str.Ascii.{encode_ascii}
use Rattle.std.proofs.lemmas.Bool.{agree_below_at, eqb-true, ltb-true}
use Rattle.report.specs.Hex.{hex_digit, hex_byte, digit_value}

small : (d : ℕ) → d < 16 → hex_digit d < 128
small d h = ltb-true (hex_digit d) 128 (agree_below_at (λ n. nat_lt (hex_digit n) 128) (λ n. true) 16 d refl h)

value_of_digit : (d : ℕ) → d < 16 → digit_value (hex_digit d) ≡ d
value_of_digit d h = eqb-true (digit_value (hex_digit d)) d (agree_below_at (λ n. digit_value (hex_digit n) == n) (λ n. true) 16 d refl h)

one_byte : (d r : ℕ) → d < 16 → r ≡ hex_digit d → encode r ≡ hex_digit d ∷ []
one_byte d r h e = ap encode e ∙ encode_ascii (hex_digit d) (small d h)

-- the two digits of a byte, as they are written
pub two_digits : (b high low : ℕ) → b < 256 → high ≡ hex_digit (b / 16) → low ≡ hex_digit (b % 16) → encode high ++ encode low ≡ hex_byte b
unfolding hex_byte
two_digits b high low h p q = λ i. one_byte (b / 16) high (omega arith) p i ++ one_byte (b % 16) low (omega arith) q i

pub read_back : (b high low : ℕ) → b < 256 → high ≡ hex_digit (b / 16) → low ≡ hex_digit (b % 16) → 16 * digit_value high + digit_value low ≡ b
read_back b high low h p q =
    let one : digit_value high ≡ b / 16 = ap digit_value p ∙ value_of_digit (b / 16) (omega arith) in
    let two : digit_value low ≡ b % 16 = ap digit_value q ∙ value_of_digit (b % 16) (omega arith) in
    omega arith
