use Rattle.std.proofs.Common.{is_ok, vec_items, sym, refl, ap, subst, arith, true-eqb, false-eqb}
use Rattle.std.proofs.ResultArms.{chosen}
use Rattle.script.specs.Commands.{instruction_of}
use Rattle.script.proofs.Scripts.{Filling, next, done, refused, shorter}
use Rattle.script.proofs.listing.list.Goals as goal

pub loop-rest-preserved : goal.loop-rest-preserved
loop-rest-preserved g c =
    let told = c.in-Ok.ensures in
    let taken = told.taken.0 refl in
    let ok = ap is_ok c.in_ok-push-in-Ok.was in
    let pushed = chosen _ _ _ _ c.push.ensures.items ok in
    let one_more = chosen _ _ _ _ c.push.ensures.len ok in
    let less = shorter c.args.script.now c.loop-rest.rest.now c.in-Ok.after.now _ (instruction_of c.in-Ok.command) (λ i. (c.type_inv.script i).fits) c.loop-rest.invariant.0.begins taken told.command told.rest in
    let room = c.loop-rest.invariant.1 in (
      subst (λ l. Filling c.args.script.now (vec_items c.args.commands.now) l c.in-Ok.after.now) (sym pushed)
          (next c.args.script.now c.loop-rest.rest.now c.in-Ok.after.now _ _ _ (λ i. (c.type_inv.script i).fits) c.loop-rest.invariant.0 refl taken told.command told.rest),
      omega arith,
      omega (arith, c.loop-rest.invariant.2, c.push.ensures.capacity),
    )

pub returns-in-Err-clause-ok : goal.returns-in-Err-clause-ok
returns-in-Err-clause-ok g c = refused _ _ _ _ _ _ _ c.loop-rest.invariant.0 (omega (arith, false-eqb _ 0 c.loop-rest-test.ensures)) c.in-Err.ensures.refused refl c.at.ensures

pub returns-clause-ok : goal.returns-clause-ok
returns-clause-ok g c = done _ _ _ _ c.loop-rest.invariant.0 (true-eqb _ 0 c.loop-rest-test.ensures)
