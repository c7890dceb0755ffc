-- Of a model each frame and each pulse has one outcome, and what never changes of it is a chip's. Assumes nothing.
use Rattle.std.specs.Prelude.{◌≡◌, ℕ, Bool, true, false, if◌then◌else◌, List, Some, None, Ok, Err, Option}
use Rattle.std.proofs.Common.{refl, ap, sym, ◌∙◌}
use Rattle.fault.specs.declared.Fault.{Fault}
use Rattle.fault.specs.declared.Refusal.{Refusal}
use Rattle.frame.specs.declared.burst.Burst.{Burst}
use Rattle.chip.specs.Exact.{OneOutcome}
use Rattle.chip.specs.Meaning.{size, SameConfig, Composes}
use Rattle.chip.specs.Refused.{refused}
use Rattle.chip.specs.Sent.{Sent, read, write, register_read, register_write, global_reset, Answer, read_bytes}
use Rattle.chip.specs.declared.bus_frame.Reply.{Reply}
use Rattle.register.specs.Registers.{refreshed_span}
use Rattle.model.specs.Contents.{Contents, meaning, is_within, SameBuild}
use Rattle.model.specs.Latency.{strobe_stays}
use Rattle.model.specs.Store.{burst_bytes}
use Rattle.model.specs.Step.{FrameOutcome, outcome_by, step, Steps, reset_step, Exactly}

-- the buffer before a frame decides neither the contents after it nor the answer
same_after : (o : Option Refusal) (m : Contents) (f : Sent) (old older : List ℕ) →
    (outcome_by o m f old).after ≡ (outcome_by o m f older).after
same_after (Some e) m f old older = refl
same_after None m f old older = refl

same_answer : (o : Option Refusal) (m : Contents) (f : Sent) (old older : List ℕ) →
    (outcome_by o m f old).answer ≡ (outcome_by o m f older).answer
same_answer (Some e) m f old older = refl
same_answer None m f old older = refl

-- nor what was read: an answered read fills its buffer
filled : (there : Bool) (x : Reply) (e : Fault ℕ) (b : Burst) (a n : ℕ) (bytes old older : List ℕ) →
    read_bytes (read b a n) (if there then Ok x else Err e) (if there then bytes else old)
    ≡ read_bytes (read b a n) (if there then Ok x else Err e) (if there then bytes else older)
filled true x e b a n bytes old older = refl
filled false x e b a n bytes old older = refl

abbrev bytes_of : Sent → FrameOutcome → List ℕ
bytes_of f o = read_bytes f o.answer o.buffer

same_bytes : (o : Option Refusal) (m : Contents) (f : Sent) (old older : List ℕ) →
    bytes_of f (outcome_by o m f old) ≡ bytes_of f (outcome_by o m f older)
same_bytes (Some e) m (read b a n) old older = refl
same_bytes None m (read b a n) old older = filled (strobe_stays m) _ _ b a n (burst_bytes m b a n) old older
same_bytes o m (write b a d k) old older = refl
same_bytes o m (register_read r) old older = refl
same_bytes o m (register_write r v) old older = refl
same_bytes o m global_reset old older = refl

bytes_by : {m n : Contents} {gap : ℕ} {f : Sent} {old new : List ℕ} {r : Answer} → Steps m gap f old r n new →
    read_bytes f r new ≡ bytes_of f (step m gap f old)
bytes_by {f = f} s = λ i. read_bytes f (s.answer i) (s.buffer i)

-- of values that show contents: one outcome, where they show the same
module _ {X : Type 0} (show : X → Contents) where
  pub one_outcome : OneOutcome (λ x. meaning (show x)) (λ x e y. Exactly (show x) e (show y)) (λ x y. show x ≡ show y)
  one_outcome = record {
    itself = λ c. refl;
    means = λ c d s. ap meaning s;
    of_frame = λ c d p q gap f old older new newer r s same _ _ one other.
        let n = show d in
        let o = refused n.config n.state gap f in
        record {
          after = one.after ∙ ap (λ m. (step m gap f old).after) same ∙ same_after o n f old older ∙ sym other.after;
          answer = one.answer ∙ ap (λ m. (step m gap f old).answer) same ∙ same_answer o n f old older
              ∙ sym other.answer;
          bytes = bytes_by one ∙ ap (λ m. bytes_of f (step m gap f old)) same ∙ same_bytes o n f old older
              ∙ sym (bytes_by other);
          buffer = λ b. one.buffer ∙ (λ i. (step (same i) gap f (b i)).buffer) ∙ sym other.buffer;
        };
    of_pulse = λ c d p q pulse r s same one other. (
      one.after ∙ ap (λ m. (reset_step m pulse).after) same ∙ sym other.after,
      one.answer ∙ ap (λ m. (reset_step m pulse).answer) same ∙ sym other.answer,
    );
  }

-- it stays the same over none and over two
pub same_composes : {X : Type 0} (show : X → Contents) → Composes (λ x y. SameBuild (show x) (show y))
same_composes show = record {
  none = λ x. record { config = refl; refresh_word = refl; strobe_count = refl };
  two = λ x y z p q. record {
    config = q.config ∙ p.config;
    refresh_word = q.refresh_word ∙ p.refresh_word;
    strobe_count = q.strobe_count ∙ p.strobe_count;
  };
}

-- what never changes of a model decides its configuration, and what a coverage refreshes
pub means_the_same : (old new : Contents) → SameBuild old new → SameConfig (meaning old) (meaning new)
means_the_same old new s =
    record { config = s.config; refreshes = ap (λ k c a. is_within (refreshed_span c (size k)) a) s.config }
