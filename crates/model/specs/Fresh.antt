-- Which stores and clocks a model is refused for, and a model as it is made. Assumes nothing.
use Rattle.std.specs.Prelude.{◌≡◌, ℕ, Bool, true, false, if◌then◌else◌, not, ◌||◌, List, length, Some, Option, ◌==◌, nat_lt}
use Rattle.clock.specs.Made as clock
use Rattle.clock.specs.declared.range.TemperatureRange.{TemperatureRange}
use Rattle.fault.specs.declared.Refusal.{Refusal}
use Rattle.fault.specs.declared.Refusal.TheVariants.{BadSetup}
use Rattle.frame.specs.Pages.{row_and_column}
use Rattle.frame.specs.declared.make.Make.{Make}
use Rattle.chip.specs.Meaning.{size}
use Rattle.chip.specs.Taken.{reset_value}
use Rattle.chip.specs.declared.config.Config.{Config}
use Rattle.chip.specs.declared.state.Phase.TheVariants.{Unwoken}
use Rattle.chip.specs.declared.state.State.{State}
use Rattle.model.specs.Contents.{Contents}

-- the largest store: 16 MiB
abbrev pub largest_store : ℕ
largest_store = 16777216

-- a store above 16 MiB, of none, or of no whole number of pages
abbrev pub is_bad_store : Make → ℕ → Bool
is_bad_store m n = nat_lt largest_store n || (n == 0 || not ((row_and_column m n).1 == 0))

-- 1 before 2 before 3
abbrev pub refused : Make → ℕ → ℕ → TemperatureRange → Option Refusal
refused m n khz range = if is_bad_store m n then Some BadSetup else clock.refused khz range

-- a configuration over a store of so many bytes
pub record IsConfigFor (m : Make) (bytes khz : ℕ) (range : TemperatureRange) (c : Config) : Type 0 where
  pub make : c.make ≡ m
  pub pages : c.pages ≡ (row_and_column m bytes).0
  pub size : size c ≡ bytes
  pub clock : clock.IsClockFor khz range c.clock

-- unwoken, with the strobe there and nothing counted
abbrev pub unwoken_state : Make → State
unwoken_state m = record {
  mr0 = reset_value m 0;
  mr4 = reset_value m 4;
  mr8 = reset_value m 8;
  phase = Unwoken;
  strobe = true;
  trst_due = false;
  latest_low = 0;
  frames = 0;
  clocks = 0;
}

-- over a store as it was handed over, not woken yet
abbrev pub fresh : Config → List ℕ → ℕ → ℕ → Contents
fresh c store refresh_word strobe_count = record {
  config = c;
  state = unwoken_state c.make;
  store = store;
  refresh_word = refresh_word;
  strobe_count = strobe_count;
  variable_reads = 0;
  answered_reads = 0;
}

-- what a model holds as it is made
pub record IsFresh (m : Make) (store : List ℕ) (khz : ℕ) (range : TemperatureRange) (refresh_word strobe_count : ℕ)
    (c : Contents) : Type 0 where
  pub config : IsConfigFor m (length store) khz range c.config
  pub contents : c ≡ fresh c.config store refresh_word strobe_count
