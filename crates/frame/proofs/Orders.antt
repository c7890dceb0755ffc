-- The addresses of a burst: they stay in the page, and a block is gone through once. Assumes nothing.
use Rattle.std.proofs.Common.{◌≡◌, ℕ, ◌+◌, ◌-◌, ◌/◌, ◌%◌, ◌∙◌, arith}
use Rattle.std.proofs.lemmas.Bool.{le-ltb, cond-false}
use Rattle.std.proofs.lemmas.Bool.Decides.{nat_tests}
use Rattle.frame.specs.Bursts.{bytes, burst_address, wrapped}
use Rattle.frame.specs.Orders.{Permutes, GoesOnBehind, IsBurstOrder}
use Rattle.frame.specs.Pages.{page}
use Rattle.frame.specs.declared.burst.Block.{Block}
use Rattle.frame.specs.declared.burst.Block.TheVariants.{Bytes16, Bytes32, Bytes64, Page}
use Rattle.frame.specs.declared.burst.Burst.{Burst}
use Rattle.frame.specs.declared.burst.Burst.TheVariants.{Linear, Wrapped, Hybrid}
use Rattle.frame.specs.declared.make.Make.{Make}
use Rattle.frame.specs.declared.make.Make.TheVariants as make

-- one lemma for each length that a block or a page can have, over the start and the index: a length that varies is not linear

once_16 : (s : ℕ) → Permutes 16 s (wrapped 16 s)
once_16 s = record {
  inside = λ i h. omega arith;
  apart = λ i j h k e. omega arith;
  each = λ a e. ((a % 16 + 16 - s % 16) % 16, omega arith, omega arith);
}

once_32 : (s : ℕ) → Permutes 32 s (wrapped 32 s)
once_32 s = record {
  inside = λ i h. omega arith;
  apart = λ i j h k e. omega arith;
  each = λ a e. ((a % 32 + 32 - s % 32) % 32, omega arith, omega arith);
}

once_64 : (s : ℕ) → Permutes 64 s (wrapped 64 s)
once_64 s = record {
  inside = λ i h. omega arith;
  apart = λ i j h k e. omega arith;
  each = λ a e. ((a % 64 + 64 - s % 64) % 64, omega arith, omega arith);
}

once_1024 : (s : ℕ) → Permutes 1024 s (wrapped 1024 s)
once_1024 s = record {
  inside = λ i h. omega arith;
  apart = λ i j h k e. omega arith;
  each = λ a e. ((a % 1024 + 1024 - s % 1024) % 1024, omega arith, omega arith);
}

once_2048 : (s : ℕ) → Permutes 2048 s (wrapped 2048 s)
once_2048 s = record {
  inside = λ i h. omega arith;
  apart = λ i j h k e. omega arith;
  each = λ a e. ((a % 2048 + 2048 - s % 2048) % 2048, omega arith, omega arith);
}

permutes : (m : Make) (s : ℕ) (block : Block) → Permutes (bytes m block) s (burst_address m (Wrapped block) s)
permutes m s Bytes16 = once_16 s
permutes m s Bytes32 = once_32 s
permutes m s Bytes64 = once_64 s
permutes make.A s Page = once_1024 s
permutes make.S s Page = once_2048 s

stays : (m : Make) (s : ℕ) (burst : Burst) (i : ℕ) → burst_address m burst s i / page m ≡ s / page m
stays make.A s Linear i = omega arith
stays make.S s Linear i = omega arith
stays make.A s (Wrapped Bytes16) i = omega arith
stays make.A s (Wrapped Bytes32) i = omega arith
stays make.A s (Wrapped Bytes64) i = omega arith
stays make.A s (Wrapped Page) i = omega arith
stays make.S s (Wrapped Bytes16) i = omega arith
stays make.S s (Wrapped Bytes32) i = omega arith
stays make.S s (Wrapped Bytes64) i = omega arith
stays make.S s (Wrapped Page) i = omega arith
stays make.A s (Hybrid Bytes16) i = grind (arith, nat_tests)
stays make.A s (Hybrid Bytes32) i = grind (arith, nat_tests)
stays make.A s (Hybrid Bytes64) i = grind (arith, nat_tests)
stays make.A s (Hybrid Page) i = omega arith
stays make.S s (Hybrid Bytes16) i = grind (arith, nat_tests)
stays make.S s (Hybrid Bytes32) i = grind (arith, nat_tests)
stays make.S s (Hybrid Bytes64) i = grind (arith, nat_tests)
stays make.S s (Hybrid Page) i = omega arith

goes_on : (m : Make) (s : ℕ) (block : Block) → GoesOnBehind (bytes m block) (page m) s (burst_address m (Hybrid block) s)
goes_on make.A s Bytes16 i h k = cond-false _ _ _ (le-ltb i 16 h) ∙ omega arith
goes_on make.A s Bytes32 i h k = cond-false _ _ _ (le-ltb i 32 h) ∙ omega arith
goes_on make.A s Bytes64 i h k = cond-false _ _ _ (le-ltb i 64 h) ∙ omega arith
goes_on make.A s Page i h k = absurd (omega arith)
goes_on make.S s Bytes16 i h k = cond-false _ _ _ (le-ltb i 16 h) ∙ omega arith
goes_on make.S s Bytes32 i h k = cond-false _ _ _ (le-ltb i 32 h) ∙ omega arith
goes_on make.S s Bytes64 i h k = cond-false _ _ _ (le-ltb i 64 h) ∙ omega arith
goes_on make.S s Page i h k = absurd (omega arith)

pub burst_order : (m : Make) (s : ℕ) → IsBurstOrder m s
burst_order m s = record { stays = stays m s; permutes = permutes m s; goes_on = goes_on m s }

-- 2 ^ 32 bytes are whole blocks
pub whole_turns : (m : Make) (block : Block) (i : ℕ) → i % 4294967296 % bytes m block ≡ i % bytes m block
whole_turns m Bytes16 i = omega arith
whole_turns m Bytes32 i = omega arith
whole_turns m Bytes64 i = omega arith
whole_turns make.A Page i = omega arith
whole_turns make.S Page i = omega arith
