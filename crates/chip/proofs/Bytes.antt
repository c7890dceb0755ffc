-- A byte changes by writes only. Assumes nothing.
use Rattle.std.proofs.Common.{◌≡◌, ℕ, zero, suc, ◌<◌, Bool, true, false, cond, not, ◌&&◌, eqb, List, [], ◌∷◌, length, Some, None, Option, Result, sym, refl, ap, ◌∙◌, subst, arith}
use Rattle.std.proofs.lemmas.Bool.{eqb-true, cond-true, and_from, false_from_ne_true}
use Rattle.fault.specs.declared.Fault.{Fault}
use Rattle.fault.specs.declared.Refusal.{Refusal}
use Rattle.mask.specs.Masks.{masked}
use Rattle.chip.specs.Sent.{Sent, read, write, register_read, register_write, global_reset, Event, sending, resetting, Answer}
use Rattle.chip.specs.Refused.{wakes}
use Rattle.chip.specs.Taken.{address, written, stored, is_retained, Taken, Judged}
use Rattle.chip.specs.Free.{FreeByFrame}
use Rattle.chip.specs.Meaning.{Meaning, size}
use Rattle.chip.specs.Resets.{ResetJudged}
use Rattle.chip.specs.Runs.{Does, still, onward, IsSafe, Reaches, Spares, ChangedByWritesOnly}
use Rattle.chip.proofs.Steps.{config_of}

skipped : (hit hidden : Bool) (x old : ℕ) → (hit ≡ true → hidden ≡ false → ⊥) → cond (hit && not hidden) x old ≡ old
skipped true true x old miss = refl
skipped true false x old miss = absurd (miss refl refl)
skipped false hidden x old miss = refl

-- a write whose bytes do not come to a leaves a
unwritten : (place : ℕ → ℕ) (d m : List ℕ) (n a old : ℕ) → ((i : ℕ) → i < n → masked m i ≡ false → place i ≡ a → ⊥) → written place d m n a old ≡ old
unwritten place d m zero a old miss = refl
unwritten place d m (suc i) a old miss =
    skipped (eqb (place i) a) (masked m i) _ _ (λ hit bare. miss i (omega arith) bare (eqb-true _ _ hit))
    ∙ unwritten place d m i a old (λ j below. miss j (omega arith))

unstored : (m : Meaning) (f : Sent) (a old : ℕ) → (Reaches m f a → ⊥) → stored m.config m.state f a old ≡ old
unstored m (read b s n) a old miss = refl
unstored m (write b s d k) a old miss =
    unwritten (address m.config m.state b s) d k (length d) a old (λ i below bare hit. miss (i, below, bare, hit))
unstored m (register_read k) a old miss = refl
unstored m (register_write k v) a old miss = refl
unstored m global_reset a old miss = refl

-- a frame that does not wake the chip retains what is safe
retained_by : (m n : Meaning) (f : Sent) (a : ℕ) → wakes f ≡ false → IsSafe m a → IsSafe n a → is_retained m n f a ≡ true
retained_by m n f a never before after =
    and_from _ _ (ap not never) (and_from _ _ after.strobe (and_from _ _ before.covered after.covered))

module _ (m n : Meaning) (a : ℕ) (in_it : a < size m.config) (before : IsSafe m a) (after : IsSafe n a) where
  taken_spares : (f : Sent) (free : FreeByFrame) (old new : List ℕ) (r : Answer) → wakes f ≡ false → (Reaches m f a → ⊥) → Taken m f free old r n new → n.byte a ≡ m.byte a
  taken_spares f free old new r never miss t =
      t.bytes a in_it
      ∙ cond-true _ _ _ (retained_by m n f a never before after)
      ∙ unstored m f a (m.byte a) miss

judged_spares : (o : Option Refusal) (m n : Meaning) (a : ℕ) (f : Sent) (old new : List ℕ) (r : Answer) → a < size m.config → IsSafe m a → IsSafe n a → ((o ≡ None) × (wakes f ≡ true) → ⊥) → ((o ≡ None) × Reaches m f a → ⊥) → Judged o m f old r n new → n.byte a ≡ m.byte a
judged_spares (Some e) m n a f old new r in_it before after never miss j = ap (λ x. x.byte a) j.1
judged_spares None m n a f old new r in_it before after never miss (free, t) =
    taken_spares m n a in_it before after f free old new r (false_from_ne_true (wakes f) (λ w. never (refl, w))) (λ hit. miss (refl, hit)) t

reset_spares : (o : Option Refusal) (m n : Meaning) (a : ℕ) (r : Result (Unit {0}) (Fault ℕ)) → (o ≡ None → ⊥) → ResetJudged o m r n → n.byte a ≡ m.byte a
reset_spares (Some e) m n a r never j = ap (λ x. x.byte a) j.1
reset_spares None m n a r never j = absurd (never refl)

pub spared : (m n : Meaning) (e : Event) (a : ℕ) → Does m e n → a < size m.config → Spares a m e n → n.byte a ≡ m.byte a
spared m n (sending gap f old r new) a d in_it s =
    judged_spares _ m n a f old new r in_it s.before s.after s.no_wake s.no_write d.judged
spared m n (resetting pulse r) a d in_it s = reset_spares _ m n a r s.no_restart d.judged

pub changed_by_writes_only : ChangedByWritesOnly
changed_by_writes_only m n [] a still in_it t = refl
changed_by_writes_only m n (s ∷ rest) a (onward d r) in_it (one, t) =
    let still_in : a < size s.after.config = subst (λ k. a < size k) (sym (config_of m s.after s.event d).config) in_it in
    changed_by_writes_only s.after n rest a r still_in t ∙ spared m s.after s.event a d in_it one
