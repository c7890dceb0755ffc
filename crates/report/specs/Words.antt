-- The commands of a script in words. Assumes nothing.
use Rattle.std.specs.Prelude.{ℕ, List, [], ◌∷◌, ◌++◌, Some, None, Option, codes, decimal}
use Rattle.std.specs.List.{flat_map}
use Rattle.fault.specs.declared.Fault.{Fault}
use Rattle.script.specs.Commands.{Instruction, read, write, fill, latency_type, coverage, register, reset}
use Rattle.script.specs.Scripts.{placed_instruction}
use Rattle.script.specs.declared.listing.Placed.{Placed}
use Rattle.report.specs.Hex.{hex_bytes, six_digits}
use Rattle.report.specs.Lines.{refusal_line}

-- 000003, length 3, data [0A0B0C], mask [02]
abbrev pub write_words : ℕ → ℕ → List ℕ → List ℕ → List ℕ
write_words a n d m =
    six_digits a ++ (codes ", length " ++ (decimal n
    ++ (codes ", data [" ++ (hex_bytes d ++ (codes "], mask [" ++ (hex_bytes m ++ codes "]"))))))

-- what a command says: read at 000003, length 3
abbrev pub instruction_words : Instruction → List ℕ
instruction_words (read a n) = codes " read at " ++ (six_digits a ++ (codes ", length " ++ decimal n))
instruction_words (write a n d m) = codes " write at " ++ write_words a n d m
instruction_words (fill a n) = codes " fill at " ++ (six_digits a ++ (codes ", line " ++ decimal n))
instruction_words (latency_type k) = codes " latency type " ++ decimal k
instruction_words (coverage k) = codes " coverage " ++ decimal k
instruction_words (register k) = codes " register " ++ decimal k
instruction_words reset = codes " reset"

-- behind its place: @10 read at 000003, length 3
abbrev pub words : ℕ × Instruction → List ℕ
words (place, i) = codes "@" ++ (decimal place ++ instruction_words i)

-- each line ends with a line feed
abbrev pub placed_line : Placed → List ℕ
placed_line p = words (placed_instruction p) ++ 10 ∷ []

-- the refusal that ends the script, as in the report
abbrev pub ending_line : Option (Fault ℕ) → List ℕ
ending_line None = []
ending_line (Some f) = refusal_line f ++ 10 ∷ []

abbrev pub listing : List Placed → Option (Fault ℕ) → List ℕ
listing ps end = flat_map placed_line ps ++ ending_line end
