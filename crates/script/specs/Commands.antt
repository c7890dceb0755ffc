-- One command of a script, byte by byte. Assumes nothing.
use Rattle.std.specs.Prelude.{◌≡◌, ℕ, ◌+◌, ◌<◌, ◌==◌, nat_le, if◌then◌else◌, List, [], ◌∷◌, ◌++◌, length, take, drop, Some, None, Option, slice_index}
use Rattle.std.specs.List.{find}
use Rattle.std.specs.Str.{byte}
use Rattle.fault.specs.declared.Refusal.{Refusal}
use Rattle.fault.specs.declared.Refusal.TheVariants.{UnknownCommand, CommandCutShort}
use Rattle.mask.specs.Masks as mask
use Rattle.script.specs.Numbers.{u16_at, u24_at, u16_bytes, u24_bytes}
use Rattle.script.specs.declared.command.Command.{Command}
use Rattle.script.specs.declared.command.Command.TheVariants as command

-- what a command says
pub data Instruction : Type 0 where
  -- an address and a length
  read : ℕ → ℕ → Instruction
  -- an address and a length, the data and the mask
  write : ℕ → ℕ → List ℕ → List ℕ → Instruction
  -- an address and the length of the line
  fill : ℕ → ℕ → Instruction
  latency_type : ℕ → Instruction
  coverage : ℕ → Instruction
  register : ℕ → Instruction
  reset : Instruction

abbrev pub instruction_of : Command → Instruction
instruction_of (command.Read a n) = read a n
instruction_of (command.Write a n d m) = write a n d.now m.now
instruction_of (command.Fill a n) = fill a n
instruction_of (command.LatencyType k) = latency_type k
instruction_of (command.Coverage k) = coverage k
instruction_of (command.Register k) = register k
instruction_of command.Reset = reset

abbrev pub letter_of : Instruction → ℕ
letter_of (read _ _) = byte "R"
letter_of (write _ _ _ _) = byte "W"
letter_of (fill _ _) = byte "F"
letter_of (latency_type _) = byte "L"
letter_of (coverage _) = byte "P"
letter_of (register _) = byte "Q"
letter_of reset = byte "Z"

-- the bytes that it takes, its letter among them
abbrev pub width_of : Instruction → ℕ
width_of (read _ _) = 6
width_of (write _ n _ _) = 6 + (n + mask.size n)
width_of (fill _ _) = 5
width_of reset = 1
width_of _ = 2

-- ---- how a command is read

-- W has its data behind the operands, and its mask behind the data
abbrev pub write_at_front : List ℕ → Instruction
write_at_front bs =
    let n = u16_at bs 4 in
    write (u24_at bs 1) n (take n (drop 6 bs)) (take (mask.size n) (drop (6 + n) bs))

-- by place, what each command would say
abbrev pub instructions_at_front : List ℕ → List Instruction
instructions_at_front bs =
    read (u24_at bs 1) (u16_at bs 4)
    ∷ write_at_front bs
    ∷ fill (u24_at bs 1) (slice_index bs 4)
    ∷ latency_type (slice_index bs 1)
    ∷ coverage (slice_index bs 1)
    ∷ register (slice_index bs 1)
    ∷ reset
    ∷ []

-- the one with the letter that is there
abbrev pub instruction_at_front : List ℕ → Option Instruction
instruction_at_front bs = find (λ i. slice_index bs 0 == letter_of i) (instructions_at_front bs)

-- 4 where no command has the letter, 5 where its bytes are not all there
abbrev pub refusal_of : Option Instruction → ℕ → Option Refusal
refusal_of None _ = Some UnknownCommand
refusal_of (Some i) bytes = if nat_le (width_of i) bytes then None else Some CommandCutShort

-- and 5 where there is no letter
abbrev pub command_refusal : List ℕ → Option Refusal
command_refusal bs =
    if length bs == 0 then Some CommandCutShort else refusal_of (instruction_at_front bs) (length bs)

-- ---- how a command is written

abbrev pub bytes_of_operands : Instruction → List ℕ
bytes_of_operands (read a n) = u24_bytes a ++ u16_bytes n
bytes_of_operands (write a n d m) = u24_bytes a ++ (u16_bytes n ++ (d ++ m))
bytes_of_operands (fill a n) = u24_bytes a ++ n ∷ []
bytes_of_operands (latency_type k) = k ∷ []
bytes_of_operands (coverage k) = k ∷ []
bytes_of_operands (register k) = k ∷ []
bytes_of_operands reset = []

abbrev pub bytes_of_instruction : Instruction → List ℕ
bytes_of_instruction i = letter_of i ∷ bytes_of_operands i

-- each number fits its bytes, and data and mask fit the length
abbrev pub InstructionFits : Instruction → Type 0
InstructionFits (read a n) = (a < 16777216) × (n < 65536)
InstructionFits (write a n d m) = (a < 16777216) × (n < 65536) × (length d ≡ n) × (length m ≡ mask.size n)
InstructionFits (fill a n) = (a < 16777216) × (n < 256)
InstructionFits (latency_type k) = k < 256
InstructionFits (coverage k) = k < 256
InstructionFits (register k) = k < 256
InstructionFits reset = Unit {0}
