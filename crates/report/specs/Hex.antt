-- Bytes and addresses in upper-case hexadecimal digits. Assumes nothing.
use Rattle.std.specs.Prelude.{ℕ, ◌/◌, ◌%◌, ◌==◌, List, [], ◌∷◌, ◌++◌, codes, position, slice_index, unwrap_or}
use Rattle.std.specs.List.{flat_map}

abbrev pub sixteen_digits : List ℕ
sixteen_digits = codes "0123456789ABCDEF"

abbrev pub hex_digit : ℕ → ℕ
hex_digit value = slice_index sixteen_digits value

-- the value of a digit that is read
abbrev pub digit_value : ℕ → ℕ
digit_value digit = unwrap_or (position (λ d. d == digit) sixteen_digits) 16

-- the high digit first
unfoldable pub hex_byte : ℕ → List ℕ
hex_byte b = hex_digit (b / 16) ∷ hex_digit (b % 16) ∷ []

abbrev pub hex_bytes : List ℕ → List ℕ
hex_bytes bs = flat_map hex_byte bs

-- the low three bytes of an address, the highest first
abbrev pub six_digits : ℕ → List ℕ
six_digits a = hex_byte (a / 65536 % 256) ++ (hex_byte (a / 256 % 256) ++ hex_byte (a % 256))
