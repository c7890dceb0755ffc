use Rattle.chip.proofs.Wires.{same_on_the_wire, taken_has_opening}
use Rattle.chip.proofs.bus_frame.Frame.opening_bytes.Goals as goal

pub returns-clause-taken_has_opening : goal.returns-clause-taken_has_opening
returns-clause-taken_has_opening c = taken_has_opening

pub returns-clause-same_on_the_wire : goal.returns-clause-same_on_the_wire
returns-clause-same_on_the_wire c = same_on_the_wire c.opening_bytes.ensures.gives_back
