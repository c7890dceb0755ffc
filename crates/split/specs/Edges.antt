-- Values at the edges of the definitions. Assumes nothing.
use Rattle.std.specs.Prelude.{◌≡◌, ℕ, [], ◌∷◌, map, Some, None}
use Rattle.std.specs.List.{range_with_len}
use Rattle.clock.specs.Made.{refused}
use Rattle.clock.specs.Times.{tcph_ns, trc_ns, trst_ns, tpu_ns, trp_ns, tcem_ns, latency, whole, started}
use Rattle.clock.specs.declared.range.TemperatureRange.{TemperatureRange}
use Rattle.clock.specs.declared.range.TemperatureRange.TheVariants.{Normal, Extended}
use Rattle.fault.specs.declared.Refusal.TheVariants.{ClockTooSlow}
use Rattle.frame.specs.Bursts.{burst_address}
use Rattle.frame.specs.OpeningBytes.{opening_bytes}
use Rattle.frame.specs.Pages.{page, row_and_column}
use Rattle.frame.specs.declared.burst.Block.TheVariants.{Bytes16}
use Rattle.frame.specs.declared.burst.Burst.TheVariants.{Hybrid}
use Rattle.frame.specs.declared.command.Command.TheVariants.{LinearRead}
use Rattle.frame.specs.declared.make.Make.{Make}
use Rattle.frame.specs.declared.make.Make.TheVariants as make
use Rattle.split.specs.Splits.{frames}
use Rattle.split.specs.declared.direction.Direction.{Direction}
use Rattle.split.specs.declared.direction.Direction.TheVariants.{Read, Write}

-- frames of n bytes from s in one direction
abbrev pub frames_at : Direction → Make → ℕ → TemperatureRange → ℕ → ℕ → ℕ
frames_at d m khz range s n = frames d (page m) (whole (tcem_ns range) khz) (latency khz) s n

pub record EdgeValues : Type 0 where
  -- 133,000 kHz: the clock numbers
  pub tcem_normal : whole (tcem_ns Normal) 133000 ≡ 532
  pub tcem_extended : whole (tcem_ns Extended) 133000 ≡ 133
  pub tcph : started tcph_ns 133000 ≡ 3
  pub trc : started trc_ns 133000 ≡ 8
  pub trst : started trst_ns 133000 ≡ 266
  pub tpu : started tpu_ns 133000 ≡ 19950
  pub trp : started trp_ns 133000 ≡ 133
  -- the slowest clocks
  pub extended_taken : refused 41000 Extended ≡ None
  pub extended_refused : refused 40999 Extended ≡ Some ClockTooSlow
  pub normal_taken : refused 10250 Normal ≡ None
  pub normal_refused : refused 10249 Normal ≡ Some ClockTooSlow
  -- a linear read at 804h
  pub opens : opening_bytes LinearRead 0x804 ≡ Some (0x20 ∷ 0x00 ∷ 0x00 ∷ 0x08 ∷ 0x04 ∷ [])
  pub place_a : row_and_column make.A 0x804 ≡ (2, 4)
  pub place_s : row_and_column make.S 0x804 ≡ (1, 4)
  -- hybrid 16 from 2, 18 bytes
  pub hybrid :
      (m : Make)
      → map (burst_address m (Hybrid Bytes16) 2) (range_with_len 0 18)
      ≡ 2 ∷ 3 ∷ 4 ∷ 5 ∷ 6 ∷ 7 ∷ 8 ∷ 9 ∷ 10 ∷ 11 ∷ 12 ∷ 13 ∷ 14 ∷ 15 ∷ 0 ∷ 1 ∷ 16 ∷ 17 ∷ []
  -- S in the normal range at 133,000 kHz: the longest read in one frame
  pub read_one : frames_at Read make.S 133000 Normal 0 1038 ≡ 1
  pub read_longer : frames_at Read make.S 133000 Normal 0 1040 ≡ 2
  pub read_odd : frames_at Read make.S 133000 Normal 1 1038 ≡ 2
  -- the extended range at 133,000 kHz: the longest write in one frame
  pub write_one : (m : Make) → frames_at Write m 133000 Extended 0 250 ≡ 1
  pub write_longer : (m : Make) → frames_at Write m 133000 Extended 0 251 ≡ 2
