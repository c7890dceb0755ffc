-- A scrambler over a chip: every byte is combined with the key byte of its address. Assumes nothing.
use Rattle.std.specs.Prelude.{◌≡◌, ℕ, ◌%◌, if◌then◌else◌, List, map, length, Ok, bit_xor, nat_le, slice_index}
use Rattle.std.specs.List.{range_with_len}
use Rattle.chip.specs.Meaning.{Meaning}
use Rattle.chip.specs.Runs.{Happens}
use Rattle.chip.specs.Sizes.{most_bytes}
use Rattle.chip.specs.Sent.{Sent, read, write, Event, sending, resetting, Answer}
use Rattle.chip.specs.Taken.{address}

-- ---- what a scrambler means

-- the key byte of an address: the key has 16 bytes
abbrev pub key_at : List ℕ → ℕ → ℕ
key_at key a = slice_index key (a % 16)

-- the memory is the one below, each byte combined by exclusive or with the key byte of its address; all else is as below
abbrev pub scrambler : List ℕ → Meaning → Meaning
scrambler key m = record m { byte = λ a. bit_xor (m.byte a) (key_at key a) }

-- ---- what a scrambler does

-- the bytes of a burst, each combined with the key byte of its own address
abbrev pub combined : List ℕ → (ℕ → ℕ) → List ℕ → List ℕ
combined key to bytes = map (λ i. bit_xor (slice_index bytes i) (key_at key (to i))) (range_with_len 0 (length bytes))

-- a frame as it goes down: the data of a write are combined, where they are not too long for any chip
abbrev pub combined_frame : List ℕ → Meaning → Sent → Sent
combined_frame key m (write b a d mask) =
    write b a (if nat_le (length d) most_bytes then combined key (address m.config m.state b a) d else d) mask
combined_frame key m f = f

-- the buffer as it comes back, from a chip that now means n: the bytes of an answered read are combined
abbrev pub combined_back : List ℕ → Meaning → Sent → Answer → List ℕ → List ℕ
combined_back key n (read b a c) (Ok x) buffer = combined key (address n.config n.state b a) buffer
combined_back key n _ _ buffer = buffer

-- the frame was sent to the chip below with its data combined, and what was read was combined
pub record SentCombined {X : Type 0} (meaning : X → Meaning) (gives : X → Event → X → Type 0) (key : List ℕ) (x : X)
    (gap : ℕ) (f : Sent) (old : List ℕ) (r : Answer) (y : X) (new : List ℕ) : Type 0 where
  pub buffer : List ℕ
  pub sends : Happens meaning gives x (sending gap (combined_frame key (meaning x) f) old r buffer) y
  pub comes_back : new ≡ combined_back key (meaning y) f r buffer

-- what a scrambler with this key does to the chip below, from x to y, and nothing else
abbrev pub Scrambled : {X : Type 0} → (X → Meaning) → (X → Event → X → Type 0) → List ℕ → X → Event → List ℕ → X
    → Type 0
Scrambled meaning gives key x (sending gap f old r new) key' y =
    (key' ≡ key) × SentCombined meaning gives key x gap f old r y new
Scrambled meaning gives key x (resetting pulse r) key' y =
    (key' ≡ key) × Happens meaning gives x (resetting pulse r) y
