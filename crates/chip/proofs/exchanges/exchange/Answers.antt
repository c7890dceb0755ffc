use Rattle.std.proofs.Common.{ap, ◌∙◌, arith}
use Rattle.chip.specs.Exchanges.{low_by_answer}
use Rattle.chip.proofs.Bytes.{changed_by_writes_only}
use Rattle.chip.proofs.Chains.{every_chain, lengthens_chains}
use Rattle.chip.proofs.Counts.{counts_rise_by_what_was_sent, fit_by}
use Rattle.chip.proofs.Outcomes.{exchanged_by}
use Rattle.chip.proofs.Steps.{config_never_changes, refused_leaves_everything, strobe_returns_by_reset_alone}
use Rattle.chip.proofs.exchanges.exchange.Goals as goal

pub returns : goal.returns
returns g c =
    let step = exchanged_by _ _ _ _ _ _ _ _ c.send-answer.ensures.does (c.low_by_answer-low.ensures ∙ ap (λ s. low_by_answer c.send-answer.result s.latest_low) c.state.ensures) (fit_by _ c.state.result c.state.ensures (omega arith) (omega arith)) in
    record {
      own = c.send-answer.ensures.own;
      step = step;
      lengthens = lengthens_chains _ _ _ _ c.args.frame _ _ _ _ c.args.gap c.send-answer.ensures.own step;
      same = c.send-answer.ensures.same;
      changed_by_writes_only = changed_by_writes_only;
      counts_rise_by_what_was_sent = counts_rise_by_what_was_sent;
      refused_leaves_everything = refused_leaves_everything;
      strobe_returns_by_reset_alone = strobe_returns_by_reset_alone;
      config_never_changes = config_never_changes;
      every_chain = every_chain _ _;
    }
