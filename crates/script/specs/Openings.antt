-- The opening of a script, byte by byte. Assumes nothing.
use Rattle.std.specs.Prelude.{◌≡◌, ℕ, ◌≤◌, Bool, true, ◌&&◌, IsTrue, if◌then◌else◌, List, [], ◌∷◌, ◌++◌, length, take, drop, Some, Option, is_some, unwrap_or, ◌==◌, nat_le, slice_index}
use Rattle.std.specs.List.{find}
use Rattle.std.specs.Str.{byte}
use Rattle.clock.specs.Letters.{letter as range_letter}
use Rattle.clock.specs.Made as clock
use Rattle.clock.specs.declared.range.TemperatureRange.{TemperatureRange}
use Rattle.clock.specs.declared.range.TemperatureRange.TheVariants.{Normal, Extended}
use Rattle.fault.specs.declared.Refusal.{Refusal}
use Rattle.fault.specs.declared.Refusal.TheVariants.{BadSetup}
use Rattle.frame.specs.Letters.{letter as make_letter}
use Rattle.frame.specs.declared.make.Make.{Make}
use Rattle.frame.specs.declared.make.Make.TheVariants as make
use Rattle.script.specs.Numbers.{u16_at, u32_at, u16_bytes, u32_bytes}
use Rattle.script.specs.declared.opening.Opening.{Opening}
use Rattle.script.specs.declared.opening.Stack.{Stack}
use Rattle.script.specs.declared.opening.Stack.TheVariants.{Plain, Keyed}

-- what an opening says
pub record Fields : Type 0 where
  pub make : Make
  pub pages : ℕ
  pub khz : ℕ
  pub range : TemperatureRange
  pub refresh_word : ℕ
  pub strobe_count : ℕ
  pub stack : Stack

abbrev pub fields_of : Opening → Fields
fields_of o = record {
  make = o.make;
  pages = o.pages;
  khz = o.clock.khz;
  range = o.clock.range;
  refresh_word = o.refresh_word;
  strobe_count = o.strobe_count;
  stack = o.stack;
}

-- ---- letters

abbrev pub make_of_letter : ℕ → Option Make
make_of_letter b = find (λ m. b == make_letter m) (make.A ∷ make.S ∷ [])

abbrev pub range_of_letter : ℕ → Option TemperatureRange
range_of_letter b = find (λ r. b == range_letter r) (Normal ∷ Extended ∷ [])

-- P: a bare chip. K: a scrambler over a window
abbrev pub stack_letter : Stack → ℕ
stack_letter Plain = byte "P"
stack_letter (Keyed key) = byte "K"

-- the window hides a page, and the key has 16 bytes
abbrev pub stack_fits : ℕ → Stack → Bool
stack_fits pages Plain = true
stack_fits pages (Keyed key) = nat_le 2 pages && (length key == 16)

-- its letter, and behind that its key
abbrev pub stack_at_front : ℕ → List ℕ → Option Stack
stack_at_front pages bs =
    find (λ s. slice_index bs 0 == stack_letter s && stack_fits pages s) (Plain ∷ Keyed (take 16 (drop 1 bs)) ∷ [])

-- ---- how an opening is read

-- place 0: the chip. Places 1 and 2: the pages. Places 3 to 6: the clock in kHz. Place 7: the temperature range.
-- Places 8 to 11: the refresh word. Places 12 and 13: the strobe count. From place 14 on: the stack
abbrev pub make_at : List ℕ → Option Make
make_at bs = make_of_letter (slice_index bs 0)

abbrev pub range_at : List ℕ → Option TemperatureRange
range_at bs = range_of_letter (slice_index bs 7)

abbrev pub stack_at : List ℕ → Option Stack
stack_at bs = stack_at_front (u16_at bs 1) (drop 14 bs)

abbrev pub fields_at_front : List ℕ → Fields
fields_at_front bs = record {
  make = unwrap_or (make_at bs) make.A;
  pages = u16_at bs 1;
  khz = u32_at bs 3;
  range = unwrap_or (range_at bs) Normal;
  refresh_word = u32_at bs 8;
  strobe_count = u16_at bs 12;
  stack = unwrap_or (stack_at bs) Plain;
}

-- the commands follow the opening and its key
abbrev pub opening_length : Stack → ℕ
opening_length Plain = 15
opening_length (Keyed key) = 31

abbrev pub commands_of : List ℕ → List ℕ
commands_of bs = drop (opening_length (fields_at_front bs).stack) bs

-- neither too short nor too long, and every value is listed
abbrev pub is_well_formed : List ℕ → Bool
is_well_formed bs =
    nat_le 15 (length bs)
    && nat_le (length bs) 32768
    && is_some (make_at bs)
    && nat_le 1 (u16_at bs 1)
    && nat_le (u16_at bs 1) 16
    && is_some (range_at bs)
    && is_some (stack_at bs)

-- 1 before 2 before 3
unfoldable pub opening_refusal : List ℕ → Option Refusal
opening_refusal bs =
    if is_well_formed bs then clock.refused (fields_at_front bs).khz (fields_at_front bs).range else Some BadSetup

-- ---- how an opening is written

abbrev pub bytes_of_stack : Stack → List ℕ
bytes_of_stack Plain = stack_letter Plain ∷ []
bytes_of_stack (Keyed key) = stack_letter (Keyed key) ∷ key

abbrev pub bytes_of_fields : Fields → List ℕ
bytes_of_fields f =
    make_letter f.make ∷ u16_bytes f.pages
    ++ (u32_bytes f.khz ++ (range_letter f.range ∷ u32_bytes f.refresh_word
    ++ (u16_bytes f.strobe_count ++ bytes_of_stack f.stack)))

-- 1 to 16 pages
pub record FieldsFit (f : Fields) : Type 0 where
  pub some : 1 ≤ f.pages
  pub few : f.pages ≤ 16
  pub stack : IsTrue (stack_fits f.pages f.stack)

-- they are read again, and what follows them is the rest
pub record FieldsComeBack (bs : List ℕ) (f : Fields) (behind : List ℕ) : Type 0 where
  pub refusal : opening_refusal bs ≡ clock.refused f.khz f.range
  pub fields : fields_at_front bs ≡ f
  pub rest : drop (opening_length f.stack) bs ≡ behind

-- an opening that is written at the front of a script comes back, unless its clock is refused
abbrev pub OpeningComesBack : List ℕ → Type 0
OpeningComesBack bs =
    (f : Fields) (behind : List ℕ) → FieldsFit f → length bs ≤ 32768 → bs ≡ bytes_of_fields f ++ behind
    → FieldsComeBack bs f behind
