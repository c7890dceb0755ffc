-- An opening that is not refused says what fits.
use Rattle.std.proofs.Common.{◌≡◌, ℕ, Bool, true, false, Some, None, Option, List, cond, refl, take, drop}
use Rattle.std.specs.Prelude.{IsTrue, unwrap_or, ◌&&◌, nat_le}
use Rattle.std.proofs.lemmas.Bool.{leb-true}
use Rattle.fault.specs.declared.Refusal.{Refusal}
use Rattle.script.specs.Numbers.{u16_at}
use Rattle.script.specs.Openings.{opening_refusal, is_well_formed, fields_at_front, stack_fits, FieldsFit}
use Rattle.script.specs.declared.opening.Stack.TheVariants.{Plain, Keyed}

-- the test of what is not refused is true
not_refused : (b : Bool) (o : Option Refusal) (e : Refusal) → cond b o (Some e) ≡ None → b ≡ true
not_refused true o e is = refl
not_refused false o e is = cc

both : (a b : Bool) → (a && b) ≡ true → (a ≡ true) × (b ≡ true)
both true b is = (refl, is)
both false b is = cc

-- a stack that is found fits the pages, and so does none
found_fits : (pages : ℕ) (key : List ℕ) (a b : Bool) → (b ≡ true → IsTrue (stack_fits pages (Keyed key)))
    → IsTrue (stack_fits pages (unwrap_or (cond a (Some Plain) (cond b (Some (Keyed key)) None)) Plain))
found_fits pages key true b fits = refl
found_fits pages key false true fits = fits refl
found_fits pages key false false fits = refl

pub opening_fits : (bs : List ℕ) → opening_refusal bs ≡ None → FieldsFit (fields_at_front bs)
unfolding opening_refusal
opening_fits bs taken =
    let well : is_well_formed bs ≡ true = not_refused (is_well_formed bs) _ _ taken in
    let to_few = (both _ _ (both _ _ well).0).0 in
    let few : nat_le (u16_at bs 1) 16 ≡ true = (both _ _ to_few).1 in
    let some : nat_le 1 (u16_at bs 1) ≡ true = (both _ _ (both _ _ to_few).0).1 in
    record {
      some = leb-true 1 (u16_at bs 1) some;
      few = leb-true (u16_at bs 1) 16 few;
      stack = found_fits (u16_at bs 1) (take 16 (drop 1 (drop 14 bs))) _ _ (λ is. (both _ _ is).1);
    }
