-- What each register of each make holds after wake or reset. Assumes nothing.
use Rattle.std.specs.Prelude.{ℕ, if◌then◌else◌, Some, None, Option, ◌==◌}
use Rattle.frame.specs.declared.make.Make.{Make}
use Rattle.frame.specs.declared.make.Make.TheVariants as make

-- one row of the table: MR0, MR1, MR2, MR3, MR4, MR8
abbrev row : ℕ → ℕ → ℕ → ℕ → ℕ → ℕ → ℕ → Option ℕ
row mr0 mr1 mr2 mr3 mr4 mr8 n =
    if n == 0 then Some mr0
    else if n == 1 then Some mr1
    else if n == 2 then Some mr2
    else if n == 3 then Some mr3
    else if n == 4 then Some mr4
    else if n == 8 then Some mr8
    else None

abbrev pub after_reset : Make → ℕ → Option ℕ
after_reset make.A = row 0x09 0x0D 0x95 0xE0 0x40 0x05
after_reset make.S = row 0x08 0x9A 0xC5 0x00 0x40 0x05
