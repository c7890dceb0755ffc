-- Numbers in a script, the high byte first. Assumes nothing.
use Rattle.std.specs.Prelude.{ℕ, ◌+◌, ◌*◌, ◌/◌, ◌%◌, List, [], ◌∷◌, slice_index}

-- the number in two, three and four bytes, of which the first is at this place
abbrev pub u16_at : List ℕ → ℕ → ℕ
u16_at bs place = slice_index bs place * 256 + slice_index bs (place + 1)

abbrev pub u24_at : List ℕ → ℕ → ℕ
u24_at bs place = slice_index bs place * 65536 + slice_index bs (place + 1) * 256 + slice_index bs (place + 2)

abbrev pub u32_at : List ℕ → ℕ → ℕ
u32_at bs place =
    slice_index bs place * 16777216 + slice_index bs (place + 1) * 65536
    + slice_index bs (place + 2) * 256 + slice_index bs (place + 3)

-- and the bytes of a number
abbrev pub u16_bytes : ℕ → List ℕ
u16_bytes n = n / 256 ∷ n % 256 ∷ []

abbrev pub u24_bytes : ℕ → List ℕ
u24_bytes n = n / 65536 ∷ n / 256 % 256 ∷ n % 256 ∷ []

abbrev pub u32_bytes : ℕ → List ℕ
u32_bytes n = n / 16777216 ∷ n / 65536 % 256 ∷ n / 256 % 256 ∷ n % 256 ∷ []
