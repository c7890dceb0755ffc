-- The values that are written: they mean what was asked, and no register refuses them. Assumes nothing.
use Rattle.std.specs.Prelude.{◌≡◌, ℕ, IsTrue}
use Rattle.clock.specs.declared.range.Latency.{Latency}
use Rattle.frame.specs.declared.burst.Burst.TheVariants.{Wrapped}
use Rattle.register.specs.Registers.{mr0, mr4, mr8, accepts, bits, block_of_line}
use Rattle.register.specs.declared.fields.Coverage.{Coverage}
use Rattle.register.specs.declared.fields.LatencyType.{LatencyType}
use Rattle.register.specs.declared.fields.CacheLine.{CacheLine}

-- MR0 takes v, and it means this latency, this type and the low two bits of this drive code
pub record WritesMr0 (lc : Latency) (latency_type : LatencyType) (drive v : ℕ) : Type 0 where
  pub taken : IsTrue (accepts 0 v)
  pub means : mr0 v ≡ record { latency_type = latency_type; lc = lc; drive = bits drive 1 0 }

pub record WritesMr4 (wl : Latency) (coverage : Coverage) (v : ℕ) : Type 0 where
  pub taken : IsTrue (accepts 4 v)
  pub means : mr4 v ≡ record { wl = wl; coverage = coverage }

pub record WritesMr8 (line : CacheLine) (v : ℕ) : Type 0 where
  pub taken : IsTrue (accepts 8 v)
  pub means : mr8 v ≡ Wrapped (block_of_line line)
