-- An opening that is written comes back. Assumes nothing.
use Rattle.std.proofs.Common.{◌≡◌, ℕ, ◌+◌, ◌*◌, ◌/◌, ◌%◌, ◌≤◌, true, List, [], ◌∷◌, ◌++◌, length, take, drop, Some, refl, ap, ◌∙◌, subst, arith}
use Rattle.std.specs.Prelude.{is_some, unwrap_or, IsTrue}
use Rattle.std.proofs.lemmas.List.{take_at, drop_at}
use Rattle.std.proofs.lemmas.Bool.{le-leb, eqb-true, and_from, and_parts, cond-true}
use Rattle.clock.specs.Letters.{letter as range_letter}
use Rattle.clock.specs.Made as clock
use Rattle.clock.specs.declared.range.TemperatureRange.{TemperatureRange}
use Rattle.clock.specs.declared.range.TemperatureRange.TheVariants.{Normal, Extended}
use Rattle.frame.specs.Letters.{letter as make_letter}
use Rattle.frame.specs.declared.make.Make.{Make}
use Rattle.frame.specs.declared.make.Make.TheVariants as make
use Rattle.script.specs.Openings.{make_of_letter, range_of_letter, stack_letter, stack_fits, stack_at_front, opening_length, is_well_formed, opening_refusal, Fields, fields_at_front, bytes_of_stack, bytes_of_fields, FieldsFit, OpeningComesBack}
use Rattle.script.specs.declared.opening.Stack.{Stack}
use Rattle.script.specs.declared.opening.Stack.TheVariants.{Plain, Keyed}
use Rattle.script.proofs.Numbers.{u16_of_bytes, u32_of_bytes}

-- letters
make_back : (m : Make) → make_of_letter (make_letter m) ≡ Some m
make_back make.A = refl
make_back make.S = refl

range_back : (r : TemperatureRange) → range_of_letter (range_letter r) ≡ Some r
range_back Normal = refl
range_back Extended = refl

-- the stack, its letter first
abbrev behind_letter : Stack → List ℕ
behind_letter Plain = []
behind_letter (Keyed key) = key

stack_parts : (s : Stack) → bytes_of_stack s ≡ stack_letter s ∷ behind_letter s
stack_parts Plain = refl
stack_parts (Keyed key) = refl

stack_back : (s : Stack) (pages n : ℕ) (rest : List ℕ) → n ≡ pages → IsTrue (stack_fits pages s) → stack_at_front n (stack_letter s ∷ behind_letter s ++ rest) ≡ Some s
stack_back Plain pages n rest e fits = refl
stack_back (Keyed key) pages n rest e fits =
    let parts = and_parts _ _ fits in
    let same : take 16 (key ++ rest) ≡ key = take_at key rest 16 (eqb-true (length key) 16 parts.1) in
    (λ i. stack_at_front (e i) (stack_letter (Keyed key) ∷ key ++ rest))
    ∙ cond-true (stack_fits pages (Keyed (take 16 (key ++ rest)))) _ _ (ap (λ k. stack_fits pages (Keyed k)) same ∙ fits)
    ∙ ap (λ k. Some (Keyed k)) same

-- the same bytes, one by one
abbrev laid : Fields → List ℕ → List ℕ
laid f behind =
    make_letter f.make ∷ f.pages / 256 ∷ f.pages % 256 ∷ f.khz / 16777216 ∷ f.khz / 65536 % 256 ∷ f.khz / 256 % 256 ∷ f.khz % 256 ∷ range_letter f.range ∷ f.refresh_word / 16777216 ∷ f.refresh_word / 65536 % 256 ∷ f.refresh_word / 256 % 256 ∷ f.refresh_word % 256 ∷ f.strobe_count / 256 ∷ f.strobe_count % 256 ∷ behind

abbrev laid_with : Fields → List ℕ → List ℕ
laid_with f rest = laid f (stack_letter f.stack ∷ behind_letter f.stack ++ rest)

one_by_one : (f : Fields) (rest : List ℕ) → bytes_of_fields f ++ rest ≡ laid_with f rest
one_by_one f rest = ap (λ l. laid f (l ++ rest)) (stack_parts f.stack)

fields_back : (f : Fields) (rest : List ℕ) → FieldsFit f → fields_at_front (laid_with f rest) ≡ f
fields_back f rest fits = λ i. record {
  make = unwrap_or (make_back f.make i) make.A;
  pages = u16_of_bytes f.pages i;
  khz = u32_of_bytes f.khz i;
  range = unwrap_or (range_back f.range i) Normal;
  refresh_word = u32_of_bytes f.refresh_word i;
  strobe_count = u16_of_bytes f.strobe_count i;
  stack = unwrap_or (stack_back f.stack f.pages _ rest (u16_of_bytes f.pages) fits.stack i) Plain;
}

formed : (f : Fields) (rest : List ℕ) → FieldsFit f → length (laid_with f rest) ≤ 32768 → is_well_formed (laid_with f rest) ≡ true
formed f rest fits few =
    let pages = u16_of_bytes f.pages in
    and_from _ _ (and_from _ _ (and_from _ _ (and_from _ _ (and_from _ _ (and_from _ _
    (le-leb 15 (length (laid_with f rest)) (omega arith)) (le-leb _ 32768 few)) (ap is_some (make_back f.make)))
    (le-leb 1 (f.pages / 256 * 256 + f.pages % 256) (omega (arith, fits.some)))) (le-leb (f.pages / 256 * 256 + f.pages % 256) 16 (omega (arith, fits.few))))
    (ap is_some (range_back f.range))) (ap is_some (stack_back f.stack f.pages _ rest pages fits.stack))

rest_back : (f : Fields) (s : Stack) (rest : List ℕ) → IsTrue (stack_fits f.pages s) → drop (opening_length s) (laid f (stack_letter s ∷ behind_letter s ++ rest)) ≡ rest
rest_back f Plain rest fits = refl
rest_back f (Keyed key) rest fits = drop_at key rest 16 (eqb-true (length key) 16 (and_parts _ _ fits).1)

pub comes_back : (bs : List ℕ) → OpeningComesBack bs
unfolding opening_refusal
comes_back bs f rest fits few is =
    let all = is ∙ one_by_one f rest in
    let well = ap is_well_formed all ∙ formed f rest fits (subst (λ l. length l ≤ 32768) all few) in
    let same = ap fields_at_front all ∙ fields_back f rest fits in
    record {
      refusal = cond-true (is_well_formed bs) _ _ well ∙ ap (λ g. clock.refused g.khz g.range) same;
      fields = same;
      rest = ap (drop (opening_length f.stack)) all ∙ rest_back f f.stack rest fits.stack;
    }
