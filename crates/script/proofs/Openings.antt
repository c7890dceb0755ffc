-- What an opening is refused by, and what one that is not says. Assumes nothing.
use Rattle.std.proofs.Common.{◌≡◌, ◌≢◌, ℕ, ◌<◌, ◌≤◌, true, false, cond, List, length, get_or, drop, Some, None, Err, ◌⊎◌, ⊎_elim, sym, ap, ◌∙◌, arith, length-drop}
use Rattle.std.specs.Prelude.{is_some, unwrap_or}
use Rattle.std.proofs.lemmas.Bool.{and_from, and_left, and_right, cond-true, cond-false, le-leb, lt-leb, ne_eqb, cases_lt}
use Rattle.clock.specs.Letters as range
use Rattle.clock.specs.Made as clock
use Rattle.clock.specs.declared.range.TemperatureRange.{TemperatureRange}
use Rattle.clock.specs.declared.range.TemperatureRange.TheVariants.{Normal, Extended}
use Rattle.fault.specs.Names.{Named}
use Rattle.fault.specs.declared.Refusal.{Refusal}
use Rattle.fault.specs.declared.Refusal.TheVariants.{BadSetup}
use Rattle.fault.specs.declared.Unknown.{Unknown}
use Rattle.frame.specs.Letters as make
use Rattle.frame.specs.declared.make.Make.{Make}
use Rattle.frame.specs.declared.make.Make.TheVariants.{A, S}
use Rattle.script.specs.Numbers.{u16_at, u32_at}
use Rattle.script.specs.Openings.{make_of_letter, range_of_letter, stack_at_front, make_at, range_at, stack_at, is_well_formed, opening_refusal, fields_at_front}
use Rattle.script.specs.declared.opening.Stack.{Stack}
use Rattle.script.specs.declared.opening.Stack.TheVariants.{Plain}
use Rattle.script.proofs.Numbers.{byte_at_place}

stack_there : (bs r : List ℕ) (n : ℕ) → r ≡ drop 14 bs → n ≡ u16_at bs 1 → stack_at_front n r ≡ stack_at bs
stack_there bs r n at number = λ i. stack_at_front (number i) (at i)

malformed : (bs : List ℕ) (e : Refusal) → is_well_formed bs ≡ false → e ≡ BadSetup → opening_refusal bs ≡ Some e
unfolding opening_refusal
malformed bs e ill is = cond-false (is_well_formed bs) _ _ ill ∙ ap Some (sym is)

-- too short and too long
pub short : (bs : List ℕ) (e : Refusal) → length bs < 15 → e ≡ BadSetup → opening_refusal bs ≡ Some e
short bs e lt is =
    malformed bs e (and_left _ _ (and_left _ _ (and_left _ _ (and_left _ _ (and_left _ _ (and_left _ _ (lt-leb 15 (length bs) lt))))))) is

pub long : (bs : List ℕ) (e : Refusal) → 32768 < length bs → e ≡ BadSetup → opening_refusal bs ≡ Some e
long bs e lt is =
    malformed bs e (and_left _ _ (and_left _ _ (and_left _ _ (and_left _ _ (and_left _ _ (and_right _ _ (lt-leb (length bs) 32768 lt))))))) is

-- letters that stand for nothing
no_make : (b : ℕ) (u : Unknown ℕ) → Named make.letter b (Err u) → is_some (make_of_letter b) ≡ false
no_make b u none = λ i. is_some (cond (ne_eqb b 65 (λ q. none.1 A (sym q)) i) (Some A) (cond (ne_eqb b 83 (λ q. none.1 S (sym q)) i) (Some S) None))

no_range : (b : ℕ) (u : Unknown ℕ) → Named range.letter b (Err u) → is_some (range_of_letter b) ≡ false
no_range b u none = λ i. is_some (cond (ne_eqb b 78 (λ q. none.1 Normal (sym q)) i) (Some Normal) (cond (ne_eqb b 88 (λ q. none.1 Extended (sym q)) i) (Some Extended) None))

pub bad_make : (bs r : List ℕ) (e : Refusal) → r ≡ bs → (1 ≤ length r → (u : Unknown ℕ) × Named make.letter (get_or r 0 0) (Err u)) → e ≡ BadSetup → opening_refusal bs ≡ Some e
bad_make bs r e at unknown is =
    ⊎_elim (λ lt. short bs e (omega (arith, ap length at)) is)
    (λ some. let u = unknown some in
    malformed bs e (and_left _ _ (and_left _ _ (and_left _ _ (and_left _ _ (and_right _ _ (ap (λ l. is_some (make_of_letter (get_or l 0 0))) (sym at) ∙ no_make _ u.0 u.1)))))) is)
    (cases_lt (length r) 1)

pub bad_range : (bs r : List ℕ) (e : Refusal) → r ≡ drop 7 bs → (1 ≤ length r → (u : Unknown ℕ) × Named range.letter (get_or r 0 0) (Err u)) → e ≡ BadSetup → opening_refusal bs ≡ Some e
bad_range bs r e at unknown is =
    ⊎_elim (λ lt. short bs e (omega (arith, ap length at, length-drop 7 bs)) is)
    (λ some. let u = unknown some in
    malformed bs e (and_left _ _ (and_right _ _ (ap (λ b. is_some (range_of_letter b)) (sym (byte_at_place bs r 7 at)) ∙ no_range _ u.0 u.1))) is)
    (cases_lt (length r) 1)

pub bad_pages : (bs : List ℕ) (n : ℕ) (e : Refusal) → n ≡ u16_at bs 1 → (n ≡ 0) ⊎ ((n ≡ 0 → ⊥) × (16 < n)) → e ≡ BadSetup → opening_refusal bs ≡ Some e
bad_pages bs n e number out is =
    ⊎_elim (λ none. malformed bs e (and_left _ _ (and_left _ _ (and_left _ _ (and_right _ _ (lt-leb 1 (u16_at bs 1) (omega arith)))))) is)
    (λ many. malformed bs e (and_left _ _ (and_left _ _ (and_right _ _ (lt-leb (u16_at bs 1) 16 (omega (arith, many.1)))))) is) out

pub bad_stack : (bs r : List ℕ) (n : ℕ) (e : Refusal) → r ≡ drop 14 bs → n ≡ u16_at bs 1 → stack_at_front n r ≡ None → e ≡ BadSetup → opening_refusal bs ≡ Some e
bad_stack bs r n e at number none is = malformed bs e (and_right _ _ (ap is_some (sym (stack_there bs r n at number) ∙ none))) is

-- an opening of which every value is listed
pub record Formed (bs : List ℕ) (m : Make) (khz : ℕ) (r : TemperatureRange) (s : Stack) : Type 0 where
  pub refusal : opening_refusal bs ≡ clock.refused khz r
  pub make : m ≡ (fields_at_front bs).make
  pub range : r ≡ (fields_at_front bs).range
  pub stack : s ≡ (fields_at_front bs).stack

known_make : (b : ℕ) (m : Make) → make.letter m ≡ b → make_of_letter b ≡ Some m
known_make b A e = ap make_of_letter (sym e)
known_make b S e = ap make_of_letter (sym e)

known_range : (b : ℕ) (r : TemperatureRange) → range.letter r ≡ b → range_of_letter b ≡ Some r
known_range b Normal e = ap range_of_letter (sym e)
known_range b Extended e = ap range_of_letter (sym e)

pub formed : (bs r : List ℕ) (m : Make) (n khz : ℕ) (t : TemperatureRange) (s : Stack) → 15 ≤ length bs → length bs ≤ 32768 → make.letter m ≡ get_or bs 0 0 → n ≡ u16_at bs 1 → n ≢ 0 → n ≤ 16 → khz ≡ u32_at bs 3 → range.letter t ≡ get_or bs 7 0 → r ≡ drop 14 bs → stack_at_front n r ≡ Some s → Formed bs m khz t s
unfolding opening_refusal
formed bs r m n khz t s some few make_is number paged small clocked range_is at stacked =
    let make : make_at bs ≡ Some m = known_make _ m make_is in
    let range : range_at bs ≡ Some t = known_range _ t range_is in
    let stack : stack_at bs ≡ Some s = sym (stack_there bs r n at number) ∙ stacked in
    let well : is_well_formed bs ≡ true =
    and_from _ _ (and_from _ _ (and_from _ _ (and_from _ _ (and_from _ _ (and_from _ _ (le-leb 15 _ some) (le-leb _ 32768 few)) (ap is_some make)) (le-leb 1 (u16_at bs 1) (omega arith))) (le-leb (u16_at bs 1) 16 (omega arith))) (ap is_some range)) (ap is_some stack) in
    record {
      refusal = cond-true (is_well_formed bs) _ _ well ∙ (λ i. clock.refused (sym clocked i) (unwrap_or (range i) Normal));
      make = λ i. unwrap_or (sym make i) A;
      range = λ i. unwrap_or (sym range i) Normal;
      stack = λ i. unwrap_or (sym stack i) Plain;
    }
