-- The letter of each range. Assumes nothing.
use Rattle.std.specs.Prelude.{ℕ, codes}
use Rattle.fault.specs.Names.{initial}
use Rattle.clock.specs.declared.range.TemperatureRange.{TemperatureRange}
use Rattle.clock.specs.declared.range.TemperatureRange.TheVariants.{Normal, Extended}

abbrev pub letter : TemperatureRange → ℕ
letter Normal = initial (codes "N")
letter Extended = initial (codes "X")
