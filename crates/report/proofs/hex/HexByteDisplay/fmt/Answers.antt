use Rattle.std.proofs.Common.{subst, arith}
use Rattle.std.specs.Fmt.{HasWritten}
use Rattle.report.specs.Hex.{hex_byte}
use Rattle.report.proofs.HexLemmas.{two_digits}
use Rattle.report.proofs.hex.HexByteDisplay.fmt.Goals as goal

pub returns-clause-writes : goal.returns-clause-writes
unfolding hex_byte
returns-clause-writes g c plain ok =
    subst (λ bs. HasWritten g.W.Write.write_str_gives c.args.f.now bs c.write.new.self)
    (two_digits c.args.self.now.0 _ _ (omega arith) c.digits-high.ensures.high c.digits-high.ensures.low)
    (c.write.ensures.writes plain ok)
