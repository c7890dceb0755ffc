-- What a model holds, and what it means as a chip. Assumes nothing.
use Rattle.std.specs.Prelude.{◌≡◌, ℕ, Bool, ◌&&◌, List, vec_items, nat_le, nat_lt, slice_index}
use Rattle.frame.specs.declared.span.Span.{Span}
use Rattle.register.specs.Registers.{refreshed_span}
use Rattle.chip.specs.Meaning.{Meaning, size}
use Rattle.chip.specs.declared.config.Config.{Config}
use Rattle.chip.specs.declared.state.State.{State}
use Rattle.model.specs.declared.device.Device.{Device}

-- all of a model, its store as a list
pub record Contents : Type 0 where
  pub config : Config
  pub state : State
  pub store : List ℕ
  -- bit k mod 32 is set where the k-th variable read meets a refresh
  pub refresh_word : ℕ
  -- after so many answered reads the strobe goes; 0 is never
  pub strobe_count : ℕ
  -- variable reads since wake or reset, modulo 32
  pub variable_reads : ℕ
  -- reads answered since wake or reset
  pub answered_reads : ℕ

abbrev pub contents : Device → Contents
contents d = record {
  config = d.config;
  state = d.state;
  store = vec_items d.store;
  refresh_word = d.refresh_word;
  strobe_count = d.strobe_count;
  variable_reads = d.variable_reads;
  answered_reads = d.answered_reads;
}

abbrev pub is_within : Span → ℕ → Bool
is_within s a = nat_le s.from a && nat_lt a s.to

-- as a chip: a coverage refreshes its span of the size, and the bytes are those of the store
abbrev pub meaning : Contents → Meaning
meaning m = record {
  config = m.config;
  refreshes = λ c a. is_within (refreshed_span c (size m.config)) a;
  state = m.state;
  byte = λ a. slice_index m.store a;
}

-- what never changes: the configuration, the refresh word and the strobe count
pub record SameBuild (old new : Contents) : Type 0 where
  pub config : new.config ≡ old.config
  pub refresh_word : new.refresh_word ≡ old.refresh_word
  pub strobe_count : new.strobe_count ≡ old.strobe_count
