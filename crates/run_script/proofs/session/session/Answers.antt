use Rattle.std.proofs.Common.{◌≡◌, map, ap, sym, ◌∙◌, subst, rules}
use Rattle.port.specs.Serves.{woken}
use Rattle.port.specs.Wakes.{Wakes}
use Rattle.runs.specs.Serving.{asked, came}
use Rattle.run_script.proofs.session.session.Goals as goal

pub returns : goal.returns
returns g c =
    let over : c.unwrap.result.chip ≡ c.args.chip = search rules in
    let (woke, (wakes, traffic)) = c.wake-port.ensures.wakes in
    let first = woken c.wake-port.result.0.chip c.wake-port.result.0.lost in
    let s = c.in_ok-serve.ensures.ok in
    let added : c.serve.new.responses.items ≡ s.added = search rules in
    let listed : c.deref.result.now ≡ c.in_ok-calls.calls.items = search rules in
    record {
      woke = woke;
      woken = first;
      wakes = subst (λ chip. Wakes g.C.Chip.meaning g.C.Chip.gives chip woke first) over wakes;
      transactions = s.transactions;
      last = woken c.serve.new.port.chip c.serve.new.port.lost;
      history = s.history;
      asked = s.calls ∙ ap (map asked) listed ∙ c.in_ok-calls.ensures;
      came = sym s.responses ∙ ap (map came) (sym added);
    }
