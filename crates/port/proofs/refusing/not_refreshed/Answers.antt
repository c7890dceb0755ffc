use Rattle.std.proofs.Common.{◌≡◌, not, ap, ◌∙◌, subst}
use Rattle.std.specs.Prelude.{IsTrue, ◌↔◌}
use Rattle.chip.specs.Meaning.{refreshed, RefreshesAll, coverage}
use Rattle.register.specs.Registers.{mr4}
use Rattle.port.proofs.Ranges.{asked}
use Rattle.port.proofs.refusing.not_refreshed.Goals as goal

pub returns : goal.returns
returns g c =
    let m = g.C.Chip.meaning c.args.chip.now in
    let cover : c.from-coverage.result.coverage ≡ coverage m.state =
    ap (λ r. r.coverage) c.from-coverage.ensures ∙ ap (λ s. (mr4 s.mr4).coverage) c.state.ensures in
    let answer : IsTrue c.refreshed.result ↔ RefreshesAll m (coverage m.state) c.args.start c.args.count =
    subst (λ v. IsTrue c.refreshed.result ↔ RefreshesAll m v c.args.start c.args.count) cover c.refreshed.ensures in
    ap not (asked (refreshed m) c.args.start c.args.count c.refreshed.result answer)
