-- The addresses of a burst's bytes. Assumes nothing.
use Rattle.std.specs.Prelude.{ℕ, ◌+◌, ◌-◌, ◌%◌, if◌then◌else◌, nat_lt}
use Rattle.frame.specs.Pages.{page}
use Rattle.frame.specs.declared.burst.Block.{Block}
use Rattle.frame.specs.declared.burst.Block.TheVariants.{Bytes16, Bytes32, Bytes64, Page}
use Rattle.frame.specs.declared.burst.Burst.{Burst}
use Rattle.frame.specs.declared.burst.Burst.TheVariants.{Linear, Wrapped, Hybrid}
use Rattle.frame.specs.declared.make.Make.{Make}

-- below, s is a burst's start, i a byte's place in the burst, b the length of a block and p that of a page

abbrev pub bytes : Make → Block → ℕ
bytes make Bytes16 = 16
bytes make Bytes32 = 32
bytes make Bytes64 = 64
bytes make Page = page make

-- s rounded down to a multiple of b: where the block of s begins
abbrev pub base : ℕ → ℕ → ℕ
base b s = s - s % b

-- byte i of a burst from s that goes round in its block
abbrev pub wrapped : ℕ → ℕ → ℕ → ℕ
wrapped b s i = base b s + (s - base b s + i) % b

-- once round the block, then on behind it, round in the page
abbrev pub hybrid : ℕ → ℕ → ℕ → ℕ → ℕ
hybrid p b s i = if nat_lt i b then wrapped b s i else base p s + (base b s - base p s + i) % p

-- byte i of a burst from s
abbrev pub burst_address : Make → Burst → ℕ → ℕ → ℕ
burst_address make Linear s i = wrapped (page make) s i
burst_address make (Wrapped block) s i = wrapped (bytes make block) s i
burst_address make (Hybrid Page) s i = wrapped (page make) s i
burst_address make (Hybrid block) s i = hybrid (page make) (bytes make block) s i
