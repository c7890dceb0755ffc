-- What one event does, by whether it is refused, is taken or wakes the chip. Assumes nothing.
use Rattle.std.proofs.Common.{◌≡◌, ℕ, ◌≤◌, Bool, true, false, cond, List, [], ◌∷◌, ◌++◌, Some, None, Ok, Err, Option, Result, sym, refl, ap, ◌∙◌, arith}
use Rattle.std.proofs.lemmas.Option.{same_Some}
use Rattle.fault.specs.Refusals.{details, fault_at}
use Rattle.fault.specs.declared.Fault.{Fault}
use Rattle.fault.specs.declared.Refusal.{Refusal}
use Rattle.fault.specs.declared.Refusal.TheVariants.{NoStrobe}
use Rattle.chip.specs.Sent.{Sent, read, write, register_read, register_write, global_reset, place, Event, sending, resetting, Answer}
use Rattle.chip.specs.Taken.{after, Taken, Judged}
use Rattle.chip.specs.Free.{FreeByFrame}
use Rattle.chip.specs.Meaning.{SameConfig, Meaning}
use Rattle.chip.specs.Resets.{ResetJudged}
use Rattle.chip.specs.Runs.{Does, IsRestart, Step, Runs, still, onward, Each, RefusedLeaves, RefusedLeavesEverything, err, StrobeReturnsByResetAlone, ConfigNeverChanges}
use Rattle.chip.specs.declared.config.Config.{Config}
use Rattle.chip.specs.declared.bus_frame.Reply.{Reply}
use Rattle.chip.specs.declared.state.State.{State}
use Rattle.chip.proofs.Tests.{refused_range, reset_refused_range}

-- ---- what never changes

same_config : {m n : Meaning} → n ≡ m → SameConfig m n
same_config e = record { config = ap (λ x. x.config) e; refreshes = ap (λ x. x.refreshes) e }

judged_config : (o : Option Refusal) (m n : Meaning) (f : Sent) (old new : List ℕ) (r : Answer) → Judged o m f old r n new → SameConfig m n
judged_config (Some e) m n f old new r j = same_config j.1
judged_config None m n f old new r j = j.1.same

reset_config : (o : Option Refusal) (m n : Meaning) (r : Result (Unit {0}) (Fault ℕ)) → ResetJudged o m r n → SameConfig m n
reset_config (Some e) m n r j = same_config j.1
reset_config None m n r j = j.1.1.same

pub config_of : (m n : Meaning) (e : Event) → Does m e n → SameConfig m n
config_of m n (sending gap f old r new) d = judged_config _ m n f old new r d.judged
config_of m n (resetting pulse r) d = reset_config _ m n r d.judged

pub config_never_changes : ConfigNeverChanges
config_never_changes m n [] still = record { config = refl; refreshes = refl }
config_never_changes m n (s ∷ rest) (onward d r) =
    let one = config_of m s.after s.event d in
    let more = config_never_changes s.after n rest r in
    record { config = more.config ∙ one.config; refreshes = more.refreshes ∙ one.refreshes }

-- ---- a run, and then another

pub joined : {m n p : Meaning} (xs ys : List Step) → Runs m xs n → Runs n ys p → Runs m (xs ++ ys) p
joined [] ys still more = more
joined (s ∷ xs) ys (onward d r) more = onward d (joined xs ys r more)

-- ---- what is refused leaves everything

-- a frame that is taken answers, or faults by 19
lost : (b : Bool) (x : Reply) (a : ℕ) (y : Fault ℕ) → Err y ≡ cond b (Ok x) (Err (fault_at (NoStrobe 0) a)) → y.refusal ≡ NoStrobe 0
lost true x a y e = cc
lost false x a y e = cc

pub only_19 : {m n : Meaning} {free : FreeByFrame} {old new : List ℕ} (f : Sent) (y : Fault ℕ) → Taken m f free old (Err y) n new → y.refusal ≡ NoStrobe 0
only_19 f y t = lost _ _ _ y t.answer

judged_fault : (o : Option Refusal) (m n : Meaning) (f : Sent) (old new : List ℕ) (r : Answer) (x : Refusal) → o ≡ Some x → Judged o m f old r n new → err r ≡ Some (fault_at x (place f))
judged_fault (Some e) m n f old new r x is j = ap err j.0 ∙ ap (λ z. Some (fault_at z (place f))) (same_Some e x is)
judged_fault None m n f old new r x is j = cc

reset_fault : (o : Option Refusal) (m n : Meaning) (r : Result (Unit {0}) (Fault ℕ)) (x : Refusal) → o ≡ Some x → ResetJudged o m r n → err r ≡ Some (fault_at x 0)
reset_fault (Some e) m n r x is j = ap err j.0 ∙ ap (λ z. Some (fault_at z 0)) (same_Some e x is)
reset_fault None m n r x is j = cc

judged_test : (o : Option Refusal) (m n : Meaning) (f : Sent) (old new : List ℕ) (r : Answer) (x : Refusal) → o ≡ Some x → Judged o m f old r n new → (n ≡ m) × (new ≡ old)
judged_test (Some e) m n f old new r x is j = (j.1, j.2)
judged_test None m n f old new r x is j = cc

judged_answer : (o : Option Refusal) (m n : Meaning) (f : Sent) (old new : List ℕ) (r : Answer) (x : Fault ℕ) → err r ≡ Some x → (details x.refusal).number ≤ 18 → Judged o m f old r n new → (n ≡ m) × (new ≡ old)
judged_answer (Some e) m n f old new r x is low j = (j.1, j.2)
judged_answer None m n f old new (Ok y) x is low j = cc
judged_answer None m n f old new (Err y) x is low j =
    let same : y.refusal ≡ x.refusal = ap (λ z. z.refusal) (same_Some y x is) in
    let nineteen : (details x.refusal).number ≡ 19 = ap (λ z. (details z).number) (sym same ∙ only_19 f y j.1) in
    absurd (omega arith)

reset_test : (o : Option Refusal) (m n : Meaning) (r : Result (Unit {0}) (Fault ℕ)) (x : Refusal) → o ≡ Some x → ResetJudged o m r n → n ≡ m
reset_test (Some e) m n r x is j = j.1
reset_test None m n r x is j = cc

reset_answer : (o : Option Refusal) (m n : Meaning) (r : Result (Unit {0}) (Fault ℕ)) (x : Fault ℕ) → err r ≡ Some x → ResetJudged o m r n → n ≡ m
reset_answer (Some e) m n r x is j = j.1
reset_answer None m n r x is j = let e : None ≡ Some x = ap err (sym j.0) ∙ is in cc

pub refused_leaves : (m n : Meaning) (e : Event) → Does m e n → RefusedLeaves m e n
refused_leaves m n (sending gap f old r new) d = record {
  answer = λ x is.
      let within = refused_range m.config m.state gap f x is in
      record { fault = judged_fault _ m n f old new r x is d.judged; least = within.0; most = within.1 };
  by_test = λ x is. judged_test _ m n f old new r x is d.judged;
  by_answer = λ x is low. judged_answer _ m n f old new r x is low d.judged;
}
refused_leaves m n (resetting pulse r) d = record {
  answer = λ x is.
      let within = reset_refused_range m.config m.state pulse x is in
      record { fault = reset_fault _ m n r x is d.judged; least = within.0; most = within.1 };
  by_test = λ x is. (reset_test _ m n r x is d.judged, tt);
  by_answer = λ x is low. (reset_answer _ m n r x is d.judged, tt);
}

-- what holds of every event holds of each in a run
each : (P : Meaning → Event → Meaning → Type 0) → ((m n : Meaning) (e : Event) → Does m e n → P m e n) → (m n : Meaning) (steps : List Step) → Runs m steps n → Each P m steps
each P all m n [] r = tt
each P all m n (s ∷ rest) (onward d r) = (all m s.after s.event d, each P all s.after n rest r)

pub refused_leaves_everything : RefusedLeavesEverything
refused_leaves_everything = each RefusedLeaves refused_leaves

-- ---- the strobe returns by a reset alone

after_strobe : (k : Config) (s : State) (f : Sent) (free : FreeByFrame) → (after k s f free).strobe ≡ free.strobe
after_strobe k s (read b a n) free = refl
after_strobe k s (write b a d m) free = refl
after_strobe k s (register_read n) free = refl
after_strobe k s (register_write n v) free = refl
after_strobe k s global_reset free = refl

not_back : (b c : Bool) → (c ≡ true → b ≡ true) → b ≡ false → c ≡ false
not_back b true back gone = sym (back refl) ∙ gone
not_back b false back gone = refl

judged_strobe : (o : Option Refusal) (m n : Meaning) (f : Sent) (old new : List ℕ) (r : Answer) → Judged o m f old r n new → m.state.strobe ≡ false → n.state.strobe ≡ false
judged_strobe (Some e) m n f old new r j gone = ap (λ x. x.state.strobe) j.1 ∙ gone
judged_strobe None m n f old new r (free, t) gone =
    ap (λ x. x.strobe) t.state ∙ after_strobe m.config m.state f free ∙ not_back _ _ t.allowed.strobe gone

reset_strobe : (o : Option Refusal) (m n : Meaning) (r : Result (Unit {0}) (Fault ℕ)) → (o ≡ None → ⊥) → ResetJudged o m r n → m.state.strobe ≡ false → n.state.strobe ≡ false
reset_strobe (Some e) m n r never j gone = ap (λ x. x.state.strobe) j.1 ∙ gone
reset_strobe None m n r never j gone = absurd (never refl)

pub strobe_of : (m n : Meaning) (e : Event) → Does m e n → (IsRestart m e → ⊥) → m.state.strobe ≡ false → n.state.strobe ≡ false
strobe_of m n (sending gap f old r new) d never = judged_strobe _ m n f old new r d.judged
strobe_of m n (resetting pulse r) d never = reset_strobe _ m n r never d.judged

strobe_gone : (m n : Meaning) (steps : List Step) → Runs m steps n → Each (λ p e q. IsRestart p e → ⊥) m steps → m.state.strobe ≡ false → n.state.strobe ≡ false
strobe_gone m n [] still t gone = gone
strobe_gone m n (s ∷ rest) (onward d r) (never, t) gone =
    strobe_gone s.after n rest r t (strobe_of m s.after s.event d never gone)

pub strobe_returns_by_reset_alone : StrobeReturnsByResetAlone
strobe_returns_by_reset_alone m n steps r t =
    record { memory = λ a. strobe_gone m n steps r t; registers = strobe_gone m n steps r t }
