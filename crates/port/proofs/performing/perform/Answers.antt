use Rattle.std.proofs.Common.{◌≡◌, [], ◌∷◌, length, ap, ◌∙◌, refl, sym, subst, arith}
use Rattle.register.specs.Codes.{coverage_of}
use Rattle.register.specs.Registers.{mr4_value}
use Rattle.port.specs.Plans.{set}
use Rattle.port.specs.Requests.{requested, coverage}
use Rattle.port.specs.Serves.{IsPerformed}
use Rattle.port.specs.declared.served.Served.{Served}
use Rattle.port.proofs.Accepted.{read_range, write_range, fill_line, register_there, coverage_fits}
use Rattle.port.proofs.Carries.{carries_by}
use Rattle.port.proofs.Performs.{performs_carried}
use Rattle.port.proofs.performing.perform.Goals as goal

pub read-requires-clause-some : goal.read-requires-clause-some
read-requires-clause-some g c =
    (read_range (g.C.Chip.meaning c.args.chip.now) _ _ _ c.in-Read.is c.requires.taken).some

pub read-requires-clause-most : goal.read-requires-clause-most
read-requires-clause-most g c =
    (read_range (g.C.Chip.meaning c.args.chip.now) _ _ _ c.in-Read.is c.requires.taken).most

pub read-requires-clause-inside : goal.read-requires-clause-inside
read-requires-clause-inside g c =
    (read_range (g.C.Chip.meaning c.args.chip.now) _ _ _ c.in-Read.is c.requires.taken).inside

pub write-requires-clause-some : goal.write-requires-clause-some
write-requires-clause-some g c =
    (write_range (g.C.Chip.meaning c.args.chip.now) _ _ _ _ _ c.in-Write.is c.requires.taken).some

pub write-requires-clause-most : goal.write-requires-clause-most
write-requires-clause-most g c =
    (write_range (g.C.Chip.meaning c.args.chip.now) _ _ _ _ _ c.in-Write.is c.requires.taken).most

pub write-requires-clause-inside : goal.write-requires-clause-inside
write-requires-clause-inside g c =
    (write_range (g.C.Chip.meaning c.args.chip.now) _ _ _ _ _ c.in-Write.is c.requires.taken).inside

pub fill-requires-clause-line : goal.fill-requires-clause-line
fill-requires-clause-line g c =
    (fill_line (g.C.Chip.meaning c.args.chip.now) _ _ _ c.in-Fill.is c.requires.taken).line

pub fill-requires-clause-even : goal.fill-requires-clause-even
fill-requires-clause-even g c =
    (fill_line (g.C.Chip.meaning c.args.chip.now) _ _ _ c.in-Fill.is c.requires.taken).even

pub fill-requires-clause-inside : goal.fill-requires-clause-inside
fill-requires-clause-inside g c =
    (fill_line (g.C.Chip.meaning c.args.chip.now) _ _ _ c.in-Fill.is c.requires.taken).inside

pub read_register-requires-clause-there : goal.read_register-requires-clause-there
read_register-requires-clause-there g c =
    register_there (g.C.Chip.meaning c.args.chip.now) _ _ _ c.in-Register.is c.requires.taken

pub returns-in-Coverage-clause-performed : goal.returns-in-Coverage-clause-performed
returns-in-Coverage-clause-performed g c =
    let m = g.C.Chip.meaning c.args.chip.now in
    let n = length c.args.buffer.now in
    let v = c.in-Coverage.code in
    let is = c.in-Coverage.is in
    let few = coverage_fits m _ v n is c.requires.taken in
    let code : c.from.result.coverage ≡ coverage_of v =
    ap (λ r. r.coverage) c.from.ensures ∙ ap coverage_of (omega arith) in
    let carried =
    carries_by g.C.Chip.meaning g.C.Chip.gives _ _ _ (set 4 (mr4_value m.config.clock.wl (coverage_of v)) ∷ []) _ _
    (λ i. set 4 (mr4_value m.config.clock.wl (code i)) ∷ []) refl c.set_coverage.ensures.carries in
    subst (λ r. IsPerformed g.C.Chip.meaning g.C.Chip.gives c.args.chip.now (requested r n) c.args.buffer.now
    c.done-in-Coverage.result c.args.buffer.now c.set_coverage.new.chip) (sym is)
    (subst (λ (s : Served). IsPerformed g.C.Chip.meaning g.C.Chip.gives c.args.chip.now (coverage v) c.args.buffer.now
    s c.args.buffer.now c.set_coverage.new.chip) (sym c.done-in-Coverage.ensures)
    (performs_carried g.C.Chip.meaning g.C.Chip.gives _ _ (coverage v) _ c.args.buffer.now carried))

pub returns-in-Register-clause-performed : goal.returns-in-Register-clause-performed
returns-in-Register-clause-performed g c =
    subst (λ r. IsPerformed g.C.Chip.meaning g.C.Chip.gives c.args.chip.now (requested r (length c.args.buffer.now))
    c.args.buffer.now c.read_register.result c.args.buffer.now c.read_register.new.chip) (sym c.in-Register.is)
    (c.read_register.ensures.performed c.args.buffer.now)
