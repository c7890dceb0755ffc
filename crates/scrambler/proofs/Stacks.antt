-- What is written through a stack comes back. Assumes nothing.
use Rattle.std.proofs.Common.{◌≡◌, ℕ, zero, suc, ◌+◌, ◌<◌, true, false, not, ◌&&◌, eqb, List, length, get_or, Some, None, Ok, Option, sym, ap, ◌∙◌, subst, ⊎_elim, arith}
use lib.Bits.{bit_xor}
use Rattle.std.proofs.lemmas.Bool.{and_parts, and_from, cases_eq, cond-true, eq-eqb, eqb-true, not-true, not_from_false, cond_both}
use Rattle.std.proofs.lemmas.Bool.Decides.{when_true}
use Rattle.fault.specs.declared.Refusal.{Refusal}
use Rattle.frame.specs.declared.burst.Burst.{Burst}
use Rattle.mask.specs.Masks.{masked}
use Rattle.chip.specs.Sent.{Sent, read, write}
use Rattle.chip.specs.Refused.{refused}
use Rattle.chip.specs.Free.{FreeByFrame}
use Rattle.chip.specs.Taken.{address, written, is_retained, Taken, Judged, Sends}
use Rattle.chip.specs.Meaning.{Meaning, size, coverage, strobe_at}
use Rattle.chip.specs.declared.bus_frame.Reply.{Reply}
use Rattle.chip.specs.declared.bus_frame.Reply.TheVariants.{Done}
use Rattle.chip.proofs.Bytes.{changed_by_writes_only}
use Rattle.chip.proofs.Steps.{config_never_changes}
use Rattle.scrambler.specs.Scramblers.{key_at}
use Rattle.scrambler.specs.Stacks.{stack, IsLastAt, WrittenComesBack}
use Rattle.scrambler.proofs.Scramblers.{twice, strobe_there}
use Rattle.window.specs.Laws.{inside_window}
use Rattle.window.specs.Windows.{shift}

-- of the bytes that go to an address, the last unmasked one stays
written_last : (place : ℕ → ℕ) (d k : List ℕ) (i x old : ℕ) → place i ≡ x → masked k i ≡ false → (n : ℕ) → i < n → ((j : ℕ) → i < j → j < n → masked k j ≡ false → place j ≡ x → ⊥) → written place d k n x old ≡ get_or d i 0
written_last place d k i x old here plain zero inside last = absurd (omega arith)
written_last place d k i x old here plain (suc n) inside last =
    ⊎_elim
    (λ same.
    let hit : (eqb (place i) x && not (masked k i)) ≡ true = and_from _ _ (eq-eqb _ _ here) (not_from_false _ plain) in
    ap (λ y. written place d k (suc y) x old) (sym same) ∙ cond-true _ _ _ hit)
    (λ other.
    let before : i < n = omega arith in
    cond_both (eqb (place n) x && not (masked k n)) _ _ (λ y. y ≡ get_or d i 0)
    (λ hit.
    let (at_x, plain_too) = and_parts _ _ hit in
    absurd (last n before (omega arith) (not-true _ plain_too) (eqb-true _ _ at_x)))
    (λ _. written_last place d k i x old here plain n before (λ j low high. last j low (omega arith))))
    (cases_eq i n)

-- a frame that is answered was taken
taken : (m n : Meaning) (f : Sent) (old new : List ℕ) (x : Reply) (o : Option Refusal) → Judged o m f old (Ok x) n new → (free : FreeByFrame) × Taken m f free old (Ok x) n new
taken m n f old new x (Some e) (answer, _, _) = cc
taken m n f old new x None judged = judged

-- a read that is answered gives the bytes before it, where they are retained over it
read_back : (m n : Meaning) (gap : ℕ) (c : Burst) (e l j x : ℕ) (old new : List ℕ) → Sends m gap (read c e l) old (Ok Done) n new → x < size m.config → j < l → address m.config m.state c e j ≡ x → is_retained m n (read c e l) x ≡ true → get_or new j 0 ≡ m.byte x
read_back m n gap c e l j x old new sends in_it inside here retained =
    let (free, t) = taken m n (read c e l) old new Done (refused m.config m.state gap (read c e l)) sends.judged in
    let there = strobe_there (strobe_at n e) Done Done _ t.answer in
    (when_true _ _ there t.buffer).each j inside
    ∙ ap n.byte here
    ∙ t.bytes x in_it
    ∙ cond-true _ _ _ retained

-- a write that is answered leaves the last unmasked byte at an address that is retained over it
write_lies : (m n : Meaning) (gap : ℕ) (b : Burst) (a i x : ℕ) (d k old new : List ℕ) → Sends m gap (write b a d k) old (Ok Done) n new → x < size m.config → IsLastAt (address m.config m.state b a) d k i → address m.config m.state b a i ≡ x → is_retained m n (write b a d k) x ≡ true → (n.byte x ≡ get_or d i 0) × (n.config ≡ m.config)
write_lies m n gap b a i x d k old new sends in_it is here retained =
    let (free, t) = taken m n (write b a d k) old new Done (refused m.config m.state gap (write b a d k)) sends.judged in (
      t.bytes x in_it
          ∙ cond-true _ _ _ retained
          ∙ written_last (address m.config m.state b a) d k i x (m.byte x) here is.unmasked (length d) is.inside (λ j low high plain at_x. is.last j low high plain (at_x ∙ sym here)),
      t.same.config,
    )

pub written_comes_back : WrittenComesBack
written_comes_back hidden key m n p q gap b a i x d k old new law sends is here retained =
    let low = stack hidden key m p in
    let high = stack hidden key n q in
    let covered = (and_parts _ _ (and_parts _ _ retained).1).0 in
    let in_it : x < size low.config = inside_window hidden m p law (coverage m.state) x covered in
    let (lies, config) = write_lies low high gap b a i x d k old new sends in_it is here retained in
    record {
      above = lies;
      below = sym (twice (n.byte (x + shift hidden n.config)) (key_at key x)) ∙ ap (λ y. bit_xor y (key_at key x)) lies;
      back = λ u v steps gap' c e l j old' new' run spared sends' inside here' retained'.
          let in_it' : x < size high.config = subst (λ k. x < size k) (sym config) in_it in
          read_back u v gap' c e l j x old' new' sends' (subst (λ k. x < size k) (sym (config_never_changes high u steps run).config) in_it') inside here' retained'
          ∙ changed_by_writes_only high u steps x run in_it' spared
          ∙ lies;
    }
