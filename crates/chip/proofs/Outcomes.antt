-- What a frame comes to, by its answer. Assumes nothing.
use Rattle.std.proofs.Common.{◌≡◌, ℕ, ◌≤◌, List, Some, None, Ok, Err, Option, sym, refl, ap, ◌∙◌, subst, arith}
use Rattle.std.proofs.lemmas.Bool.{cond-true, cond-false, eq-eqb, ne_eqb}
use Rattle.fault.specs.Refusals.{details, fault_at}
use Rattle.fault.specs.declared.Fault.{Fault}
use Rattle.fault.specs.declared.Refusal.{Refusal}
use Rattle.chip.specs.Exchanges.{low_by_answer, IsRunStep}
use Rattle.chip.specs.Sent.{Sent, place, Event, sending, Answer}
use Rattle.chip.specs.Taken.{Judged, Sends}
use Rattle.chip.specs.Meaning.{Meaning}
use Rattle.chip.specs.Runs.{Does, still, onward, unless_refused, frames_in, clocks_in, CountsFit, RisesBy}
use Rattle.chip.proofs.Bytes.{spared}
use Rattle.chip.proofs.Counts.{risen_to}
use Rattle.chip.proofs.Steps.{joined, refused_leaves, strobe_of, only_19}
use Rattle.chip.proofs.Tests.{refused_range}

-- ---- the low clocks, by the answer

at_19 : (y : Fault ℕ) (low : ℕ) → (details y.refusal).number ≡ 19 → low_by_answer (Err y) low ≡ low
at_19 y low is = cond-true _ _ _ (eq-eqb _ 19 is)

below_19 : (y : Fault ℕ) (low : ℕ) → (details y.refusal).number ≤ 18 → low_by_answer (Err y) low ≡ 0
below_19 y low most = cond-false _ _ _ (ne_eqb _ 19 (λ (is : (details y.refusal).number ≡ 19). omega arith))

low_by : (o : Option Refusal) (m n : Meaning) (f : Sent) (old new : List ℕ) (r : Answer) (low : ℕ) → ((x : Refusal) → o ≡ Some x → (details x).number ≤ 18) → Judged o m f old r n new → low_by_answer r low ≡ unless_refused o low
low_by (Some e) m n f old new r low most j = ap (λ x. low_by_answer x low) j.0 ∙ below_19 (fault_at e (place f)) low (most e refl)
low_by None m n f old new (Ok x) low most j = refl
low_by None m n f old new (Err y) low most j = at_19 y low (ap (λ x. (details x).number) (only_19 f y j.1))

-- ---- one event

exchanged : (m n : Meaning) (e : Event) (low : ℕ) → Does m e n → CountsFit n → low ≡ clocks_in m e n → IsRunStep m e low n
exchanged m n e low does fit clocks = record {
  does = does;
  clocks = clocks;
  counts = λ never. subst (λ x. RisesBy m (frames_in m e n) x n) (sym clocks) (risen_to m n e does fit never);
  fit = fit;
  bytes = λ a in_it s. spared m n e a does in_it s;
  refused = refused_leaves m n e does;
  strobe = λ never. record { memory = λ a. strobe_of m n e does never; registers = strobe_of m n e does never };
  goes_on = λ start steps run. joined steps _ run (onward does still);
}

-- one frame
pub exchanged_by : (m n : Meaning) (gap : ℕ) (f : Sent) (old new : List ℕ) (r : Answer) (low : ℕ) → Sends m gap f old r n new → low ≡ low_by_answer r n.state.latest_low → CountsFit n → IsRunStep m (sending gap f old r new) low n
exchanged_by m n gap f old new r low sends is fit =
    exchanged m n (sending gap f old r new) low sends fit
    (is ∙ low_by _ m n f old new r n.state.latest_low (λ x e. (refused_range m.config m.state gap f x e).1) sends.judged)
