-- What follows from the tests of a frame: which refusals they give, and what holds where they give none. Assumes nothing.
use Rattle.std.proofs.Common.{not, ◌≡◌, ℕ, ◌≤◌, Bool, true, false, List, [], ◌∷◌, Some, None, refl, subst, arith}
use Rattle.std.proofs.lemmas.Option.{same_Some}
use Rattle.fault.specs.Refusals.{details}
use Rattle.fault.specs.declared.Refusal.{Refusal}
use Rattle.chip.specs.Refused.{first_refusal, bad_start, bad_register, refused, wakes, takes, too_long}
use Rattle.chip.specs.Sent.{Sent}
use Rattle.chip.specs.Resets.{reset_refused}
use Rattle.chip.specs.declared.config.Config.{Config}
use Rattle.chip.specs.declared.state.Phase.TheVariants.{Awake}
use Rattle.chip.specs.declared.state.State.{State}

-- each refusal of a list is one of 13 to 18
abbrev InRange : Refusal → Type 0
InRange x = (13 ≤ (details x).number) × ((details x).number ≤ 18)

abbrev Listed : List (Bool × Refusal) → Type 0
Listed [] = Unit {0}
Listed ((t, r) ∷ rest) = InRange r × Listed rest

first_listed : (tests : List (Bool × Refusal)) (x : Refusal) → Listed tests → first_refusal tests ≡ Some x → InRange x
unfolding first_refusal
first_listed [] x all e = cc
first_listed ((true, r) ∷ rest) x all e = subst InRange (same_Some r x e) all.0
first_listed ((false, r) ∷ rest) x all e = first_listed rest x all.1 e

pub refused_range : (k : Config) (s : State) (gap : ℕ) (f : Sent) (x : Refusal) → refused k s gap f ≡ Some x → (13 ≤ (details x).number) × ((details x).number ≤ 18)
refused_range k s gap f x e = first_listed _ x ((omega arith, omega arith), ((omega arith, omega arith), ((omega arith, omega arith), ((omega arith, omega arith), ((omega arith, omega arith), ((omega arith, omega arith), tt)))))) e

pub reset_refused_range : (k : Config) (s : State) (pulse : ℕ) (x : Refusal) → reset_refused k s pulse ≡ Some x → (13 ≤ (details x).number) × ((details x).number ≤ 18)
reset_refused_range k s pulse x e = first_listed _ x ((omega arith, omega arith), ((omega arith, omega arith), tt)) e

-- where no test holds, the first does not, and none of the others does
pub none_first : (t : Bool) (r : Refusal) (rest : List (Bool × Refusal)) → first_refusal ((t, r) ∷ rest) ≡ None → (t ≡ false) × (first_refusal rest ≡ None)
unfolding first_refusal
none_first true r rest e = cc
none_first false r rest e = (refl, e)

pub good_start : (k : Config) (s : State) (gap : ℕ) (f : Sent) → refused k s gap f ≡ None → bad_start k f ≡ false
good_start k s gap f e = (none_first _ _ _ (none_first _ _ _ (none_first _ _ _ e).1).1).0

pub good_register : (k : Config) (s : State) (gap : ℕ) (f : Sent) → refused k s gap f ≡ None → bad_register f ≡ false
good_register k s gap f e =
    (none_first _ _ _ (none_first _ _ _ (none_first _ _ _ (none_first _ _ _ (none_first _ _ _ (none_first _ _ _ e).1).1).1).1).1).0

not_twice : (b : Bool) → not (not b) ≡ false → b ≡ false
not_twice true e = e
not_twice false e = refl

-- an awake chip takes no global reset
pub wakes_not : (k : Config) (s : State) (gap : ℕ) (f : Sent) → s.phase ≡ Awake → refused k s gap f ≡ None → wakes f ≡ false
wakes_not k s gap f awake e =
    let taken = (none_first (not (takes s.phase (wakes f))) _ _ e).0 in
    not_twice (wakes f) (subst (λ p. not (takes p (wakes f)) ≡ false) awake taken)

pub good_length : (k : Config) (s : State) (gap : ℕ) (f : Sent) → refused k s gap f ≡ None → too_long k s f ≡ false
good_length k s gap f e = (none_first _ _ _ (none_first _ _ _ (none_first _ _ _ (none_first _ _ _ (none_first _ _ _ e).1).1).1).1).0
