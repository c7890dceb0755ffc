-- The largest numbers of any chip. Assumes nothing.
use Rattle.std.specs.Prelude.{ℕ}

-- its size: 16 MiB, as far as a start of 24 bits reaches
abbrev pub largest_size : ℕ
largest_size = 16777216

-- the clocks that CE# may be low: tCEM, 4,000 ns at 133 MHz
abbrev pub most_clocks : ℕ
most_clocks = 532

-- the bytes of a frame: a write of this many is low for 3 + 3 + 526 clocks
abbrev pub most_bytes : ℕ
most_bytes = 1052
