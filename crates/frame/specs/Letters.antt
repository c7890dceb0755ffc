-- The letter of each make. Assumes nothing.
use Rattle.std.specs.Prelude.{ℕ, codes}
use Rattle.fault.specs.Names.{initial}
use Rattle.frame.specs.declared.make.Make.{Make}
use Rattle.frame.specs.declared.make.Make.TheVariants as make

abbrev pub letter : Make → ℕ
letter make.A = initial (codes "A")
letter make.S = initial (codes "S")
