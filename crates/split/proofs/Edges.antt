-- The values at the edges, by computing. Assumes nothing.
use Rattle.std.proofs.Common.{◌≡◌, [], ◌∷◌, map, refl}
use Rattle.std.specs.List.{range_with_len}
use Rattle.clock.specs.declared.range.TemperatureRange.TheVariants.{Extended}
use Rattle.frame.specs.Bursts.{burst_address}
use Rattle.frame.specs.declared.burst.Block.TheVariants.{Bytes16}
use Rattle.frame.specs.declared.burst.Burst.TheVariants.{Hybrid}
use Rattle.frame.specs.declared.make.Make.{Make}
use Rattle.frame.specs.declared.make.Make.TheVariants as make
use Rattle.split.specs.declared.direction.Direction.TheVariants.{Write}
use Rattle.split.specs.Edges.{frames_at, EdgeValues}

hybrid : (m : Make) → map (burst_address m (Hybrid Bytes16) 2) (range_with_len 0 18) ≡ 2 ∷ 3 ∷ 4 ∷ 5 ∷ 6 ∷ 7 ∷ 8 ∷ 9 ∷ 10 ∷ 11 ∷ 12 ∷ 13 ∷ 14 ∷ 15 ∷ 0 ∷ 1 ∷ 16 ∷ 17 ∷ []
hybrid make.A = refl
hybrid make.S = refl

write_one : (m : Make) → frames_at Write m 133000 Extended 0 250 ≡ 1
write_one make.A = refl
write_one make.S = refl

write_longer : (m : Make) → frames_at Write m 133000 Extended 0 251 ≡ 2
write_longer make.A = refl
write_longer make.S = refl

pub edge_values : EdgeValues
edge_values = record {
  tcem_normal = refl;
  tcem_extended = refl;
  tcph = refl;
  trc = refl;
  trst = refl;
  tpu = refl;
  trp = refl;
  extended_taken = refl;
  extended_refused = refl;
  normal_taken = refl;
  normal_refused = refl;
  opens = refl;
  place_a = refl;
  place_s = refl;
  hybrid = hybrid;
  read_one = refl;
  read_longer = refl;
  read_odd = refl;
  write_one = write_one;
  write_longer = write_longer;
}
