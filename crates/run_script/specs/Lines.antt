-- The lines of a report, by the commands and what came of each. Assumes nothing.
use Rattle.std.specs.Prelude.{ℕ, List, [], ◌∷◌, ◌++◌, Ok, Err, Option, zip}
use Rattle.std.specs.List.{flat_map}
use Rattle.chip.specs.Sent.{Answer}
use Rattle.chip.specs.declared.bus_frame.Reply.{Reply}
use Rattle.chip.specs.declared.bus_frame.Reply.TheVariants.{Done, Register}
use Rattle.fault.specs.Refusals.{fault_at}
use Rattle.fault.specs.declared.Fault.{Fault}
use Rattle.report.specs.CommandLines.{Entry, entry_line}
use Rattle.report.specs.CommandLines as entry
use Rattle.report.specs.Words.{ending_line}
use Rattle.runs.specs.Serving.{Came}
use Rattle.script.specs.Commands.{Instruction, read, write, fill, latency_type, coverage, register, reset}

-- the byte that a register read is answered with
abbrev pub byte_of : Reply → ℕ
byte_of Done = 0
byte_of (Register b) = b

-- what is reported of a command that was taken: the bytes that came of it, and what it took
abbrev pub taken : Instruction → Reply → Came → Entry
taken (read a n) reply r = entry.read a r.bytes r.traffic
taken (write a n d m) reply r = entry.write a n m r.traffic
taken (fill a n) reply r = entry.fill a r.bytes r.traffic
taken (latency_type v) reply r = entry.latency_type v r.traffic
taken (coverage v) reply r = entry.coverage v r.traffic
taken (register k) reply r = entry.register k (byte_of reply) r.traffic
taken reset reply r = entry.reset r.traffic

-- by the answer; one that is refused, or lost, has its fault at the command's own place
abbrev pub entry_by : Answer → ℕ × Instruction → Came → Entry
entry_by (Ok reply) (place, i) r = taken i reply r
entry_by (Err f) (place, i) r = entry.refused (fault_at f.refusal place)

abbrev pub entry_for : ℕ × Instruction → Came → Entry
entry_for c r = entry_by r.answer c r

-- each line ends with a line feed
abbrev pub ended : List ℕ → List ℕ
ended line = line ++ 10 ∷ []

abbrev pub command_line : ℕ × Instruction → Came → List ℕ
command_line c r = ended (entry_line (entry_for c r))

-- a line for each command, in order
abbrev pub command_lines : List (ℕ × Instruction) → List Came → List ℕ
command_lines cs rs = flat_map (λ (c, r). command_line c r) (zip cs rs)

-- the first line, those of the commands, and the refusal that ends the script
abbrev pub report_of : List ℕ → List (ℕ × Instruction) → List Came → Option (Fault ℕ) → List ℕ
report_of first cs rs end = ended first ++ command_lines cs rs ++ ending_line end
