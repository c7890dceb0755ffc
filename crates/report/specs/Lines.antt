-- The first line of the report and the line of a refusal, byte for byte. Assumes nothing.
use Rattle.std.specs.Prelude.{ℕ, ◌/◌, ◌%◌, List, [], ◌∷◌, ◌++◌, Some, None, codes, decimal, Option}
use Rattle.clock.specs.Made.{period}
use Rattle.fault.specs.Refusals.{details, fault_at}
use Rattle.fault.specs.declared.Details.{Details}
use Rattle.fault.specs.declared.Fault.{Fault}
use Rattle.fault.specs.declared.Refusal.{Refusal}
use Rattle.frame.specs.Letters.{letter}
use Rattle.script.specs.Openings.{opening_refusal, Fields, fields_at_front}

-- chip, pages, clock in kHz, period in picoseconds: A 2 133000 7519
abbrev pub heading : Fields → List ℕ
heading f =
    letter f.make ∷ codes " " ++ (decimal f.pages
    ++ (codes " " ++ (decimal f.khz ++ (codes " " ++ decimal (period f.khz)))))

-- the good bytes, where a refusal has them
abbrev pub good_part : Option ℕ → List ℕ
good_part None = []
good_part (Some k) = codes " k=" ++ decimal k

-- the number in two digits, the place as it is written, the good bytes: ! 10 @21, or ! 19 @30 k=1024
abbrev pub refusal_at : Details → List ℕ → List ℕ
refusal_at d place =
    codes "! " ++ (decimal (d.number / 10) ++ (decimal (d.number % 10) ++ (codes " @" ++ (place ++ good_part d.good))))

abbrev pub refusal_line : Fault ℕ → List ℕ
refusal_line f = refusal_at (details f.refusal) (decimal f.place)

-- the refusal of the opening, at place 0, or else what the opening says
abbrev pub first_line_by : Option Refusal → Fields → List ℕ
first_line_by None f = heading f
first_line_by (Some e) f = refusal_line (fault_at e 0)

abbrev pub first_line : List ℕ → List ℕ
first_line script = first_line_by (opening_refusal script) (fields_at_front script)
