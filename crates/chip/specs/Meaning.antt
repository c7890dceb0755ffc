-- What a chip means. Assumes nothing.
use Rattle.std.specs.Prelude.{◌≡◌, ℕ, ◌+◌, ◌*◌, ◌<◌, ◌≤◌, Bool, true}
use Rattle.clock.specs.Times.{clocks}
use Rattle.clock.specs.declared.range.Latency.{Latency}
use Rattle.frame.specs.Pages.{page}
use Rattle.register.specs.Registers.{mr0, mr4}
use Rattle.register.specs.declared.fields.Coverage.{Coverage}
use Rattle.register.specs.declared.fields.Coverage.TheVariants.{All}
use Rattle.chip.specs.declared.config.Config.{Config}
use Rattle.chip.specs.declared.state.State.{State}

pub record Meaning : Type 0 where
  -- make, pages and clock numbers
  pub config : Config
  -- the addresses that each coverage refreshes
  pub refreshes : Coverage → ℕ → Bool
  -- registers, phase, strobe, the wait that is due, the latest low clocks and the two counts
  pub state : State
  -- the byte at each address
  pub byte : ℕ → ℕ

-- the size in bytes
abbrev pub size : Config → ℕ
size k = k.pages * page k.make

-- the most clocks that CE# may be low for a frame: tCEM
abbrev pub most_low : Config → ℕ
most_low k = k.clock.tcem

-- what MR0 and MR4 hold
abbrev pub read_latency : State → Latency
read_latency s = (mr0 s.mr0).lc

abbrev pub write_latency : State → Latency
write_latency s = (mr4 s.mr4).wl

abbrev pub coverage : State → Coverage
coverage s = (mr4 s.mr4).coverage

-- the coverage that MR4 holds refreshes this address
abbrev pub refreshed : Meaning → ℕ → Bool
refreshed m a = m.refreshes (coverage m.state) a

-- a coverage refreshes each of so many addresses from one on
abbrev pub RefreshesAll : Meaning → Coverage → ℕ → ℕ → Type 0
RefreshesAll m c from count = (a : ℕ) → from ≤ a → a < from + count → m.refreshes c a ≡ true

-- the strobe comes with a read of this address; with a register read
abbrev pub strobe_at : Meaning → ℕ → Bool
strobe_at m a = m.state.strobe

abbrev pub register_strobe : Meaning → Bool
register_strobe m = m.state.strobe

-- true of every chip: the full coverage refreshes all of it, nothing refreshes what is not there, and the longest
-- latency and a cache line of 64 bytes fit into tCEM. Its size is in the type of its configuration
pub record Lawful (m : Meaning) : Type 0 where
  pub full : (a : ℕ) → a < size m.config → m.refreshes All a ≡ true
  pub inside : (c : Coverage) (a : ℕ) → m.refreshes c a ≡ true → a < size m.config
  pub room : 35 + 2 * clocks m.config.clock.lc ≤ most_low m.config

-- what stays the same, stays the same over none and over two
pub record Composes {X : Type 0} (same : X → X → Type 0) : Type 0 where
  pub none : (c : X) → same c c
  pub two : (c d e : X) → same c d → same d e → same c e

-- what never changes: make, pages, clock numbers, and what each coverage refreshes
pub record SameConfig (m n : Meaning) : Type 0 where
  pub config : n.config ≡ m.config
  pub refreshes : n.refreshes ≡ m.refreshes
