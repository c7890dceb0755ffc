-- What two arms of a model's `send` come to. Assumes nothing.
use Rattle.std.proofs.Common.{◌≡◌, ℕ, Bool, true, false, not, List, length, None, Ok, Err, refl, ◌∙◌}
use Rattle.fault.specs.Refusals.{fault_at}
use Rattle.fault.specs.declared.Fault.{Fault}
use Rattle.fault.specs.declared.Refusal.TheVariants.{WrongPhase}
use Rattle.frame.specs.declared.burst.Burst.{Burst}
use Rattle.chip.specs.LowClocks.{low_for}
use Rattle.chip.specs.Refused.{wakes, takes, first_refusal, refused, unfit}
use Rattle.chip.specs.Sent.{Sent, read, place}
use Rattle.chip.specs.Taken.{counted}
use Rattle.chip.specs.declared.bus_frame.Reply.TheVariants.{Done}
use Rattle.chip.specs.declared.config.Config.{Config}
use Rattle.chip.specs.declared.state.Phase.TheVariants.{Awake}
use Rattle.chip.specs.declared.state.State.{State}
use Rattle.model.specs.Contents.{Contents}
use Rattle.model.specs.Latency.{strobe_stays, is_variable, latency}
use Rattle.model.specs.Step.{one_more_variable, one_more_answered, Steps}
use Rattle.model.specs.Store.{burst_bytes}

-- the phase does not take the frame: 13, and all stays
pub wrong_phase : (m n : Contents) (gap : ℕ) (f : Sent) (old : List ℕ) (e : Fault ℕ) → takes m.state.phase (wakes f) ≡ false
    → e ≡ fault_at WrongPhase (place f) → n ≡ m → Steps m gap f old (Err e) n old
unfolding first_refusal
wrong_phase m n gap f old e not_taken fault stays = record {
  after = rw (not_taken, stays) refl;
  answer = rw (not_taken, fault) refl;
  buffer = rw not_taken refl;
}

-- awake, what does not wake is refused as it is unfit
refused_awake : (k : Config) (s : State) (gap : ℕ) (f : Sent) → s.phase ≡ Awake → wakes f ≡ false → refused k s gap f ≡ unfit k s gap f
unfolding first_refusal
refused_awake k s gap f awake not_waking = rw (awake, not_waking) refl

there_of : (b : Bool) → not b ≡ false → b ≡ true
there_of true there = refl
there_of false there = cc

-- a read that is answered
pub read_answered : (m n : Contents) (gap : ℕ) (f : Sent) (b : Burst) (a : ℕ) (old new : List ℕ) → f ≡ read b a (length old)
    → m.state.phase ≡ Awake → unfit m.config m.state gap f ≡ None → not (strobe_stays m) ≡ false
    → n ≡ record m {
      state = counted m.state (low_for m.config m.state f (latency m)) (strobe_stays m);
      variable_reads = one_more_variable m (is_variable m);
      answered_reads = one_more_answered m;
    }
    → new ≡ burst_bytes m b a (length old)
    → Steps m gap f old (Ok Done) n new
read_answered m n gap f b a old new is awake fit never_gone after filled =
    let there = there_of _ never_gone in
    let fits : unfit m.config m.state gap (read b a (length old)) ≡ None = rw is at fit in
    let none = refused_awake m.config m.state gap (read b a (length old)) awake refl ∙ fits in
    rw (after, filled, is) record { after = rw none (rw there refl); answer = rw none (rw there refl); buffer = rw none (rw there refl) }
