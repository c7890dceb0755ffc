use Rattle.std.proofs.Common.{length, ap, ◌∙◌, rules, arith}
use Rattle.std.proofs.lemmas.Grind.{common_steps}
use Rattle.fault.specs.Refusals.{fault_at}
use Rattle.fault.specs.declared.Refusal.TheVariants.{WrongPhase}
use Rattle.chip.specs.Sent.{sent}
use Rattle.chip.specs.Taken.{counted}
use Rattle.model.specs.Contents.{Contents, contents}
use Rattle.model.specs.Step.{one_more_variable, one_more_answered}
use Rattle.model.specs.Store.{burst_bytes}
use Rattle.model.proofs.Arms.{wrong_phase, read_answered}
use Rattle.model.proofs.device.Device.send.Goals as goal

pub returns-else-not-next : goal.returns-else-not-next
returns-else-not-next c =
    let m = contents c.args.self.now in
    let next = c.next_frame-next in
    let burst = c.in-Awake-Read.burst in
    let start = c.in-Awake-Read.start in
    let is = ap (λ g. sent g (length c.args.buffer.now)) c.in-Awake-Read.is-1 in
    let low = c.low_clocks-low-in-Awake-Read.ensures ∙ next.ensures.low (length c.args.buffer.now) in
    let variable = next.ensures.variable burst start _ is in
    let after = c.count_read.ensures
    ∙ ap {A = Contents} (λ x. record x { variable_reads = one_more_variable x next.result.variable; answered_reads = one_more_answered x }) c.count.ensures
    ∙ (λ i. record m {
      state = counted m.state (low i) (next.ensures.strobe i);
      variable_reads = one_more_variable m (variable i);
      answered_reads = one_more_answered m;
    }) in
    let filled = c.fill.ensures ∙ ap {A = Contents} (λ x. burst_bytes x burst start (length c.args.buffer.now)) c.count.ensures in
    let there = rw next.ensures.strobe at c.if-not-next.false in
    read_answered _ _ _ _ burst start _ _
    is c.in-Awake-Read.is-0 (search rules) there after filled

pub returns-in-Unwoken-default : goal.returns-in-Unwoken-default
returns-in-Unwoken-default c =
    let fault = c.at-in-Unwoken-default.ensures ∙ ap (λ p. fault_at WrongPhase p) (c.place.ensures (length c.args.buffer.now)) in
    wrong_phase _ _ _ _ _ _ (grind (arith, common_steps)) fault (grind (arith, common_steps))
