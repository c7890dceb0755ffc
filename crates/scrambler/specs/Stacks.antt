-- A stack, a scrambler over a window over a chip: what is written through it comes back. Assumes nothing.
use Rattle.std.specs.Prelude.{◌≡◌, ℕ, ◌+◌, ◌<◌, true, false, List, length, Ok, ◌≢◌, bit_xor, slice_index}
use Rattle.frame.specs.declared.burst.Burst.{Burst}
use Rattle.mask.specs.Masks.{masked}
use Rattle.chip.specs.Meaning.{Meaning, Lawful}
use Rattle.chip.specs.Runs.{Each, Runs, Spares, Step}
use Rattle.chip.specs.Sent.{read, write}
use Rattle.chip.specs.Taken.{address, is_retained, Sends}
use Rattle.chip.specs.declared.bus_frame.Reply.TheVariants.{Done}
use Rattle.scrambler.specs.Scramblers.{scrambler, key_at}
use Rattle.window.specs.Windows.{window, shift}

abbrev pub stack : (hidden : ℕ) (key : List ℕ) (m : Meaning) → hidden < m.config.pages → Meaning
stack hidden key m some = scrambler key (window hidden m some)

-- byte i of a write is the last unmasked byte that goes to its address
pub record IsLastAt (to : ℕ → ℕ) (d mask : List ℕ) (i : ℕ) : Type 0 where
  pub inside : i < length d
  pub unmasked : masked mask i ≡ false
  pub last : (j : ℕ) → i < j → j < length d → masked mask j ≡ false → to j ≢ to i

-- after any run that spares x, a read that is answered, over which x is retained, gives v at each place of its burst
-- that comes to x
abbrev pub GivesBack : Meaning → ℕ → ℕ → Type 0
GivesBack m x v =
    (p q : Meaning) (steps : List Step) (gap : ℕ) (c : Burst) (e l j : ℕ) (old new : List ℕ)
    → Runs m steps p → Each (Spares x) m steps → Sends p gap (read c e l) old (Ok Done) q new
    → j < l → address p.config p.state c e j ≡ x → is_retained p q (read c e l) x ≡ true
    → slice_index new j ≡ v

-- the stack over n holds v at x: the chip below has it at the shifted address under the key, and it comes back
pub record Holds (hidden : ℕ) (key : List ℕ) (n : Meaning) (some : hidden < n.config.pages) (x v : ℕ) : Type 0 where
  pub above : (stack hidden key n some).byte x ≡ v
  pub below : n.byte (x + shift hidden n.config) ≡ bit_xor v (key_at key x)
  pub back : GivesBack (stack hidden key n some) x v

-- of a write that is answered, the last unmasked byte to an address that is retained over the write
abbrev pub WrittenComesBack : Type 0
WrittenComesBack =
    (hidden : ℕ) (key : List ℕ) (m n : Meaning) (p : hidden < m.config.pages) (q : hidden < n.config.pages)
    (gap : ℕ) (b : Burst) (a i x : ℕ) (d mask old new : List ℕ)
    → Lawful m
    → Sends (stack hidden key m p) gap (write b a d mask) old (Ok Done) (stack hidden key n q) new
    → IsLastAt (address (stack hidden key m p).config m.state b a) d mask i
    → address (stack hidden key m p).config m.state b a i ≡ x
    → is_retained (stack hidden key m p) (stack hidden key n q) (write b a d mask) x ≡ true
    → Holds hidden key n q x (slice_index d i)
