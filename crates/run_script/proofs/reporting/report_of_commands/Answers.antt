use Rattle.std.proofs.Common.{subst, sym}
use Rattle.script.specs.Openings.{FieldsFit}
use Rattle.run_script.proofs.Openings.{opening_fits}
use Rattle.run_script.proofs.reporting.report_of_commands.Goals as goal

pub responses-requires : goal.responses-requires
responses-requires c = subst FieldsFit (sym c.requires.opening) (opening_fits c.args.script.now c.requires.taken)
