-- The bytes of the line that a report begins with. Assumes nothing.
use Rattle.std.specs.Prelude.{ℕ, List, Ok, Err, Result}
use Rattle.fault.specs.declared.Fault.{Fault}
use Rattle.script.specs.Openings.{fields_of}
use Rattle.script.specs.declared.opening.Opening.{Opening}
use Rattle.report.specs.Lines.{heading, refusal_line}

abbrev pub first_line_of : Result Opening (Fault ℕ) → List ℕ
first_line_of (Ok o) = heading (fields_of o)
first_line_of (Err f) = refusal_line f
