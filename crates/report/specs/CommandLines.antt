-- The lines of the report after the first, byte for byte. Assumes nothing.
use Rattle.std.specs.Prelude.{ℕ, ◌-◌, ◌*◌, List, ◌++◌, length, codes, decimal}
use Rattle.fault.specs.declared.Fault.{Fault}
use Rattle.mask.specs.Masks.{masked_among}
use Rattle.port.specs.declared.traffic.Traffic.{Traffic}
use Rattle.report.specs.Hex.{hex_byte, hex_bytes, six_digits}
use Rattle.report.specs.Lines.{refusal_line}
use Rattle.report.specs.declared.line.Line.{Line}
use Rattle.report.specs.declared.line.Line.TheVariants as borrowed

-- frames and low clocks: f=1 c=10
abbrev pub cost_part : Traffic → List ℕ
cost_part t = codes " f=" ++ (decimal t.frames ++ (codes " c=" ++ decimal t.clocks))

-- the bytes that a write of n bytes wrote: n less the set bits of its mask, 0 where these are more
abbrev pub written_count : ℕ → List ℕ → ℕ
written_count n mask = n - masked_among mask (8 * length mask)

-- address, length, data: 000003 3 0A000C
abbrev pub data_part : ℕ → List ℕ → List ℕ
data_part a d = six_digits a ++ (codes " " ++ (decimal (length d) ++ (codes " " ++ hex_bytes d)))

-- address, length, bytes written: 000003 3 w=2
abbrev pub write_part : ℕ → ℕ → List ℕ → List ℕ
write_part a n mask = six_digits a ++ (codes " " ++ (decimal n ++ (codes " w=" ++ decimal (written_count n mask))))

-- what a command did and what it took, or its refusal, its bytes as lists
pub data Entry : Type 0 where
  -- an address and the data
  read : ℕ → List ℕ → Traffic → Entry
  -- an address, a length and the mask
  write : ℕ → ℕ → List ℕ → Traffic → Entry
  -- an address and the data
  fill : ℕ → List ℕ → Traffic → Entry
  latency_type : ℕ → Traffic → Entry
  coverage : ℕ → Traffic → Entry
  -- a register and its byte
  register : ℕ → ℕ → Traffic → Entry
  reset : Traffic → Entry
  refused : Fault ℕ → Entry

-- R 000003 3 0A000C f=1 c=10
-- W 000003 3 w=2 f=1 c=10
-- F 000006 16 000000000000000000000000000A000C f=2 c=26
-- L 1 f=1 c=5
-- P 0 f=1 c=5
-- Q 0 09 f=1 c=9
-- Z f=2 c=10
-- ! 10 @21
abbrev pub entry_line : Entry → List ℕ
entry_line (read a d t) = codes "R " ++ (data_part a d ++ cost_part t)
entry_line (write a n m t) = codes "W " ++ (write_part a n m ++ cost_part t)
entry_line (fill a d t) = codes "F " ++ (data_part a d ++ cost_part t)
entry_line (latency_type v t) = codes "L " ++ (decimal v ++ cost_part t)
entry_line (coverage v t) = codes "P " ++ (decimal v ++ cost_part t)
entry_line (register r b t) = codes "Q " ++ (decimal r ++ (codes " " ++ (hex_byte b ++ cost_part t)))
entry_line (reset t) = codes "Z" ++ cost_part t
entry_line (refused f) = refusal_line f

-- a line as an entry
abbrev pub entry_of : Line → Entry
entry_of (borrowed.Read a d t) = read a d.now t
entry_of (borrowed.Write a n m t) = write a n m.now t
entry_of (borrowed.Fill a d t) = fill a d.now t
entry_of (borrowed.LatencyType v t) = latency_type v t
entry_of (borrowed.Coverage v t) = coverage v t
entry_of (borrowed.Register r b t) = register r b t
entry_of (borrowed.Reset t) = reset t
entry_of (borrowed.Refused f) = refused f

abbrev pub line : Line → List ℕ
line l = entry_line (entry_of l)
