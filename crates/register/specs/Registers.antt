-- The mode registers: their fields, and the values that they take. Assumes nothing.
use Rattle.std.specs.Prelude.{ℕ, ◌+◌, ◌-◌, ◌*◌, ◌/◌, ◌%◌, ◌^◌, Bool, false, if◌then◌else◌, ◌&&◌, ◌||◌, ◌==◌, nat_lt, is_some}
use Rattle.std.proofs.Common.{zero-le, sub-le}
use Rattle.clock.specs.Times.{latencies}
use Rattle.clock.specs.declared.range.Latency.{Latency}
use Rattle.fault.specs.Names.{named}
use Rattle.frame.specs.Spans.{span_of}
use Rattle.frame.specs.declared.burst.Block.{Block}
use Rattle.frame.specs.declared.burst.Block.TheVariants as block
use Rattle.frame.specs.declared.burst.Burst.{Burst}
use Rattle.frame.specs.declared.burst.Burst.TheVariants.{Linear, Wrapped, Hybrid}
use Rattle.frame.specs.declared.span.Span.{Span}
use Rattle.register.specs.Codes.{type_code, read_code, write_code, coverage_code, block_code, read_latency, write_latency, coverage_of, block_of}
use Rattle.register.specs.declared.fields.Coverage.{Coverage}
use Rattle.register.specs.declared.fields.Coverage.TheVariants.{All, BottomHalf, BottomQuarter, BottomEighth, Nothing, TopHalf, TopQuarter, TopEighth}
use Rattle.register.specs.declared.fields.LatencyType.{LatencyType}
use Rattle.register.specs.declared.fields.LatencyType.TheVariants.{Variable, Fixed}
use Rattle.register.specs.declared.fields.CacheLine.{CacheLine}
use Rattle.register.specs.declared.fields.CacheLine.TheVariants as line
use Rattle.register.specs.declared.fields.Mr0.{Mr0}
use Rattle.register.specs.declared.fields.Mr4.{Mr4}

-- the bits from high down to low of a value
abbrev pub bits : ℕ → ℕ → ℕ → ℕ
bits value high low = value / 2 ^ low % 2 ^ (high + 1 - low)

-- MR0: bit 5 is the latency type, bits 4:2 the read code, bits 1:0 the drive code
abbrev pub mr0 : ℕ → Mr0
mr0 v =
    record {
      latency_type = if bits v 5 5 == 1 then Fixed else Variable;
      lc = read_latency (bits v 4 2);
      drive = bits v 1 0;
    }

abbrev pub is_mr0_value : ℕ → Bool
is_mr0_value v = bits v 7 6 == 0 && is_some (named read_code latencies (bits v 4 2))

-- MR4: bits 7:5 are the write code, bits 2:0 the coverage
abbrev pub mr4 : ℕ → Mr4
mr4 v = record { wl = write_latency (bits v 7 5); coverage = coverage_of (bits v 2 0) }

abbrev pub is_mr4_value : ℕ → Bool
is_mr4_value v = bits v 4 3 == 0 && is_some (named write_code latencies (bits v 7 5))

-- MR8: bit 2 is 1 for hybrid, bits 1:0 are the block
abbrev pub mr8 : ℕ → Burst
mr8 v = if bits v 2 2 == 1 then Hybrid (block_of (bits v 1 0)) else Wrapped (block_of (bits v 1 0))

abbrev pub is_mr8_value : ℕ → Bool
is_mr8_value v = bits v 7 3 == 0

-- the burst on the wire: linear by its command, else what MR8 says, whatever block the frame carries
abbrev pub on_wire : Burst → ℕ → Burst
on_wire Linear v = Linear
on_wire _ v = mr8 v

-- the registers that can be read, and those that can be written
abbrev pub readable : ℕ → Bool
readable n = nat_lt n 5 || n == 8

abbrev pub writable : ℕ → Bool
writable n = n == 0 || (n == 4 || n == 8)

-- a register takes a value in which bits without a name are 0 and no code is reserved
abbrev pub accepts : ℕ → ℕ → Bool
accepts n v =
    if n == 0 then is_mr0_value v else if n == 4 then is_mr4_value v else if n == 8 then is_mr8_value v else false

-- the addresses that a coverage refreshes, of a size: a part of it at the bottom or at the top
abbrev pub bottom : ℕ → ℕ → Span
bottom size divisor = record { from = 0; to = size / divisor; ordered = zero-le }

abbrev pub top : ℕ → ℕ → Span
top size divisor = record { from = size - size / divisor; to = size; ordered = sub-le size (size / divisor) }

abbrev pub refreshed_span : Coverage → ℕ → Span
refreshed_span All size = bottom size 1
refreshed_span BottomHalf size = bottom size 2
refreshed_span BottomQuarter size = bottom size 4
refreshed_span BottomEighth size = bottom size 8
refreshed_span Nothing size = span_of 0 0
refreshed_span TopHalf size = top size 2
refreshed_span TopQuarter size = top size 4
refreshed_span TopEighth size = top size 8

-- the block of a cache line
abbrev pub block_of_line : CacheLine → Block
block_of_line line.Bytes16 = block.Bytes16
block_of_line line.Bytes32 = block.Bytes32
block_of_line line.Bytes64 = block.Bytes64

-- the values that are written
abbrev pub mr0_value : Latency → LatencyType → ℕ → ℕ
mr0_value lc latency_type drive = 32 * type_code latency_type + 4 * read_code lc + bits drive 1 0

abbrev pub mr4_value : Latency → Coverage → ℕ
mr4_value wl coverage = 32 * write_code wl + coverage_code coverage

abbrev pub mr8_value : CacheLine → ℕ
mr8_value line = block_code (block_of_line line)
