use Rattle.std.proofs.Common.{refl}
use Rattle.script.specs.Openings.{fields_of}
use Rattle.script.proofs.Scripts.{ok_listed, err_listed, script_back, no_script}
use Rattle.script.proofs.listing.read.Goals as goal

pub returns-in-Ok-clause-ok : goal.returns-in-Ok-clause-ok
returns-in-Ok-clause-ok g c =
    let opening = c.in-Ok.ensures in
    ok_listed _ _ (fields_of c.in-Ok.opening) _ _ _ (opening.taken.0 refl) opening.ok c.commands.ensures c.list.ensures.ok

pub returns-in-Ok-clause-err : goal.returns-in-Ok-clause-err
returns-in-Ok-clause-err g c =
    let opening = c.in-Ok.ensures in
    err_listed _ _ (fields_of c.in-Ok.opening) _ _ _ (opening.taken.0 refl) opening.ok c.commands.ensures c.list.ensures.err

pub returns-in-Ok-clause-comes_back : goal.returns-in-Ok-clause-comes_back
returns-in-Ok-clause-comes_back g c =
    let opening = c.in-Ok.ensures in
    let listed = ok_listed _ _ (fields_of c.in-Ok.opening) _ _ _ (opening.taken.0 refl) opening.ok c.commands.ensures c.list.ensures.ok in
    script_back _ _ _ _ (opening.taken.0 refl) listed opening.comes_back

pub returns-in-Err-clause-comes_back : goal.returns-in-Err-clause-comes_back
returns-in-Err-clause-comes_back g c = no_script _ _ _ _ _ c.in-Err.ensures.refused c.in-Err.ensures.comes_back
