-- What a request that is taken comes to: frames, each of them one value, and pulses. Assumes nothing.
use Rattle.std.specs.Prelude.{ℕ, zero, suc, ◌+◌, ◌-◌, ◌*◌, Bool, if◌then◌else◌, not, ◌&&◌, ◌||◌, List, [], ◌∷◌, ◌++◌, length, map, ◌==◌, nat_le, nat_lt, slice_index}
use Rattle.std.specs.List.{range_with_len}
use Rattle.chip.specs.Sent as sent
use Rattle.chip.specs.Sent.{Sent}
use Rattle.chip.specs.Taken.{reset_value}
use Rattle.chip.specs.declared.config.Config.{Config}
use Rattle.chip.specs.declared.state.State.{State}
use Rattle.frame.specs.Pages.{page}
use Rattle.frame.specs.declared.burst.Burst.TheVariants.{Linear, Wrapped}
use Rattle.frame.specs.declared.span.Span.{Span}
use Rattle.mask.specs.Masks.{size as mask_size, masked}
use Rattle.register.specs.Codes.{coverage_of}
use Rattle.register.specs.Registers.{mr0, mr0_value, mr4_value, mr8_value, block_of_line}
use Rattle.register.specs.declared.fields.CacheLine.{CacheLine}
use Rattle.register.specs.declared.fields.CacheLine.TheVariants.{Bytes16, Bytes32, Bytes64}
use Rattle.register.specs.declared.fields.Coverage.TheVariants.{All}
use Rattle.register.specs.declared.fields.LatencyType.{LatencyType}
use Rattle.register.specs.declared.fields.LatencyType.TheVariants.{Variable, Fixed}
use Rattle.split.specs.Directions.{limit, latency}
use Rattle.split.specs.Splits.{pieces, rounded_from, rounded_to}
use Rattle.split.specs.declared.direction.Direction.{Direction}
use Rattle.split.specs.declared.direction.Direction.TheVariants.{Read, Write}
use Rattle.port.specs.Requests.{Request, read, write, fill, latency_type, coverage, register, reset}

-- a frame to send, as soon as the chip takes it, or a pulse on RESET# of so many clocks
pub data Task : Type 0 where
  send : Sent → Task
  pulse : ℕ → Task

-- ---- registers

-- a register write
abbrev pub set : ℕ → ℕ → Task
set r v = send (sent.register_write r v)

-- after wake and reset: MR0 for the clock, variable, with the drive bits of its reset value; MR4 for the clock, with
-- the full coverage
abbrev pub set_up : Config → List Task
set_up k =
    set 0 (mr0_value k.clock.lc Variable (mr0 (reset_value k.make 0)).drive)
    ∷ set 4 (mr4_value k.clock.wl All)
    ∷ []

-- the latency type of a code: 1 is fixed
abbrev pub latency_type_of : ℕ → LatencyType
latency_type_of v = if v == 1 then Fixed else Variable

-- the line of so many bytes
abbrev pub line_of : ℕ → CacheLine
line_of n = if n == 16 then Bytes16 else (if n == 32 then Bytes32 else Bytes64)

-- MR8 is written unless it holds the line's value
abbrev pub select_line : State → CacheLine → List Task
select_line s line = if s.mr8 == mr8_value line then [] else set 8 (mr8_value line) ∷ []

-- ---- reads and writes: linear frames, one for each piece of the range rounded out to even ends

-- the pieces of n bytes from a, in one direction
abbrev pub pieces_of : Direction → Config → ℕ → ℕ → List Span
pieces_of d k a n =
    pieces (page k.make) (limit d k.clock.tcem (latency d k.clock.lc k.clock.wl)) (rounded_from a) (rounded_to a n)

abbrev pub read_piece : Span → Task
read_piece piece = send (sent.read Linear piece.from (piece.to - piece.from))

-- address x is one of the n from a
abbrev pub is_inside : ℕ → ℕ → ℕ → Bool
is_inside a n x = nat_le a x && nat_lt x (a + n)

-- what a write of these data from a sends to address x: 0 where rounding added it
abbrev pub byte_for : ℕ → List ℕ → ℕ → ℕ
byte_for a d x = if is_inside a (length d) x then slice_index d (x - a) else 0

-- whether it masks address x: where rounding added it, or the request masks it
abbrev pub masks : ℕ → List ℕ → List ℕ → ℕ → Bool
masks a d mask x = not (is_inside a (length d) x) || masked mask (x - a)

-- so many bits from bit i on as a number, the lowest first
abbrev pub bits_from : (ℕ → Bool) → ℕ → ℕ → ℕ
bits_from test i zero = 0
bits_from test i (suc n) = (if test i then 1 else 0) + 2 * bits_from test (i + 1) n

-- the mask of n bytes, of which those are masked that a test holds of
abbrev pub mask_by : (ℕ → Bool) → ℕ → List ℕ
mask_by test n = map (λ k. bits_from (λ i. nat_lt i n && test i) (8 * k) 8) (range_with_len 0 (mask_size n))

-- what the frame of a piece carries
abbrev pub data_of : ℕ → List ℕ → Span → List ℕ
data_of a d piece = map (λ i. byte_for a d (piece.from + i)) (range_with_len 0 (piece.to - piece.from))

abbrev pub mask_of : ℕ → List ℕ → List ℕ → Span → List ℕ
mask_of a d mask piece = mask_by (λ i. masks a d mask (piece.from + i)) (piece.to - piece.from)

abbrev pub write_piece : ℕ → List ℕ → List ℕ → Span → Task
write_piece a d mask piece = send (sent.write Linear piece.from (data_of a d piece) (mask_of a d mask piece))

-- ---- what each request comes to, over a chip in this state

abbrev pub plan : Config → State → Request → List Task
plan k s (read a n) = map read_piece (pieces_of Read k a n)
plan k s (write a d mask) = map (write_piece a d mask) (pieces_of Write k a (length d))
plan k s (fill a n) =
    select_line s (line_of n) ++ send (sent.read (Wrapped (block_of_line (line_of n))) a n) ∷ []
plan k s (latency_type v) = set 0 (mr0_value k.clock.lc (latency_type_of v) (mr0 s.mr0).drive) ∷ []
plan k s (coverage v) = set 4 (mr4_value k.clock.wl (coverage_of v)) ∷ []
plan k s (register r) = send (sent.register_read r) ∷ []
plan k s reset = pulse k.clock.trp ∷ set_up k
