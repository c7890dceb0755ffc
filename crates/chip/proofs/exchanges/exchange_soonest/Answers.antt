use Rattle.std.proofs.Common.{◌∙◌}
use Rattle.chip.specs.Refused.{least_gap}
use Rattle.chip.proofs.Chains.{at_gap}
use Rattle.chip.proofs.ExactChains.{one_outcome_of_chains}
use Rattle.chip.proofs.exchanges.exchange_soonest.Goals as goal

pub returns : goal.returns
returns g c =
    let soonest = c.least_gap-gap.ensures ∙ (λ i. least_gap (c.config.ensures i) (c.state.ensures i)) in
    let call = at_gap _ _ _ _ c.args.frame _ _ _ _ _ _ soonest (c.exchange.ensures.own, c.exchange.ensures.step, c.exchange.ensures.lengthens) in
    record {
      own = call.0;
      step = call.1;
      lengthens = call.2;
      same = c.exchange.ensures.same;
      one_outcome = g.met.C.Exact.one_outcome;
      of_chains = one_outcome_of_chains _ _ _ g.met.C.Exact.one_outcome;
    }
