-- The page length of each make, and where an address lies. Assumes nothing.
use Rattle.std.specs.Prelude.{ℕ, ◌/◌, ◌%◌}
use Rattle.frame.specs.declared.make.Make.{Make}
use Rattle.frame.specs.declared.make.Make.TheVariants as make

abbrev pub page : Make → ℕ
page make.A = 1024
page make.S = 2048

-- the row is the address divided by the page length, the column is the remainder
abbrev pub row_and_column : Make → ℕ → ℕ × ℕ
row_and_column m a = (a / page m, a % page m)
