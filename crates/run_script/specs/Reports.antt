-- The report of a script. Assumes nothing.
use Rattle.std.specs.Prelude.{◌≡◌, ℕ, List, Some, None, Option}
use Rattle.fault.specs.Refusals.{fault_at}
use Rattle.fault.specs.declared.Fault.{Fault}
use Rattle.fault.specs.declared.Refusal.{Refusal}
use Rattle.report.specs.Lines.{heading, refusal_line}
use Rattle.runs.specs.Serving.{Came}
use Rattle.script.specs.Commands.{Instruction}
use Rattle.script.specs.Openings.{opening_refusal, fields_at_front, commands_of}
use Rattle.script.specs.Scripts.{IsReading}
use Rattle.run_script.specs.Lines.{ended, report_of}
use Rattle.run_script.specs.Sessions.{SessionOf}

-- of a script with an opening: what is read of it, what came of its commands, and the lines
pub record ReportsCommands (script text : List ℕ) : Type 0 where
  pub commands : List (ℕ × Instruction)
  pub ending : Option (Fault ℕ)
  pub reading : IsReading (commands_of script) commands ending
  pub came : List Came
  pub session : SessionOf (fields_at_front script) commands came
  pub text_is : text ≡ report_of (heading (fields_at_front script)) commands came ending

-- of an opening that is refused, its refusal alone
abbrev pub ReportsBy : Option Refusal → List ℕ → List ℕ → Type 0
ReportsBy None script text = ReportsCommands script text
ReportsBy (Some e) script text = text ≡ ended (refusal_line (fault_at e 0))

-- the text is a report of the script
abbrev pub Reports : List ℕ → List ℕ → Type 0
Reports script text = ReportsBy (opening_refusal script) script text
