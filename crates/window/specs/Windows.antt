-- A window over a chip: it hides the first pages. Assumes nothing.
use Rattle.std.specs.Prelude.{◌≡◌, ℕ, ◌+◌, ◌-◌, ◌*◌, ◌^◌, ◌<◌, min, List, Ok, Err, Result}
use Rattle.fault.specs.Refusals.{fault_at}
use Rattle.fault.specs.declared.Fault.{Fault}
use Rattle.frame.specs.Pages.{page}
use Rattle.chip.specs.Meaning.{Meaning}
use Rattle.chip.specs.Runs.{Happens}
use Rattle.chip.specs.Sent.{Sent, read, write, place, Event, sending, resetting, Answer}
use Rattle.chip.specs.declared.config.Config.{Config}
use Rattle.window.specs.Sizes.{page_left, rest_fits}

-- ---- what a window means

-- how far the addresses are moved
abbrev pub shift : ℕ → Config → ℕ
shift hidden k = hidden * page k.make

-- the pages that are left, of which there is one at least
abbrev pub window_config : (hidden : ℕ) (k : Config) → hidden < k.pages → Config
window_config hidden k some = record {
  make = k.make;
  pages = k.pages - hidden;
  clock = k.clock;
  has_page = page_left hidden k some;
  within_16_mib = rest_fits hidden k;
}

-- byte a is the byte below at a + shift, refreshed as that is; all else is as below
abbrev pub window : (hidden : ℕ) (m : Meaning) → hidden < m.config.pages → Meaning
window hidden m some = record m {
  config = window_config hidden m.config some;
  refreshes = λ c a. m.refreshes c (a + shift hidden m.config);
  byte = λ a. m.byte (a + shift hidden m.config);
}

-- ---- what a window does

-- an address as it goes down, moved and kept within 32 bits
abbrev pub moved : ℕ → ℕ → ℕ
moved by a = min (a + by) (2 ^ 32 - 1)

-- a frame as it goes down: the start of a memory frame is moved
abbrev pub lowered : ℕ → Sent → Sent
lowered by (read b a n) = read b (moved by a) n
lowered by (write b a d mask) = write b (moved by a) d mask
lowered by f = f

-- a fault names the place as it was called on the window
abbrev pub placed : {X : Type 0} → ℕ → Result X (Fault ℕ) → Result X (Fault ℕ)
placed p (Ok x) = Ok x
placed p (Err f) = Err (fault_at f.refusal p)

-- the frame was sent to the chip below with its start moved, and a fault came back with the place as it was called
pub record SentBelow {X : Type 0} (meaning : X → Meaning) (gives : X → Event → X → Type 0) (hidden : ℕ) (x : X)
    (gap : ℕ) (f : Sent) (old : List ℕ) (r : Answer) (y : X) (new : List ℕ) : Type 0 where
  pub answer : Answer
  pub sends : Happens meaning gives x (sending gap (lowered (shift hidden (meaning x).config) f) old answer new) y
  pub comes_back : r ≡ placed (place f) answer

-- what a window that hides so many pages does to the chip below, from x to y, and nothing else
abbrev pub Windowed : {X : Type 0} → (X → Meaning) → (X → Event → X → Type 0) → ℕ → X → Event → ℕ → X → Type 0
Windowed meaning gives hidden x (sending gap f old r new) hidden' y =
    (hidden' ≡ hidden) × SentBelow meaning gives hidden x gap f old r y new
Windowed meaning gives hidden x (resetting pulse r) hidden' y =
    (hidden' ≡ hidden) × Happens meaning gives x (resetting pulse r) y
