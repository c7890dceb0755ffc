use Rattle.std.proofs.Common.{◌≡◌, ◌/◌, ◌%◌, arith, rules}
use Rattle.std.proofs.lemmas.Grind.{common_steps}
use Rattle.report.specs.Hex.{hex_digit}
use Rattle.report.proofs.HexLemmas.{read_back}
use Rattle.report.proofs.hex.digits.Goals as goal

pub returns-clause-read_back : goal.returns-clause-read_back
returns-clause-read_back c =
    let high : c.digit.result ≡ hex_digit (c.args.byte / 16) = search rules in
    let low : c.digit-2.result ≡ hex_digit (c.args.byte % 16) = grind (arith, common_steps) in
    read_back c.args.byte c.digit.result c.digit-2.result (omega arith) high low
