-- Lists of acts, one after another.
use Rattle.std.proofs.Common.{◌≡◌, ℕ, ◌+◌, Bool, true, false, MatchBool, ◌||◌, List, [], ◌∷◌, ◌++◌, sum_by, Ok, Err, if◌then◌else◌, refl, sym, ap, ◌∙◌, subst}
use Rattle.std.specs.Prelude.{is_err}
use Rattle.std.proofs.lemmas.Bool.{or_parts, MatchBool-at_false}
use Rattle.std.proofs.lemmas.List.Sums.{sum_by-append, sum_by-cons, sum_by_push}
use Rattle.chip.specs.Chains.{Exchange}
use Rattle.chip.specs.Meaning.{Meaning}
use Rattle.chip.specs.Sent.{Event}
use Rattle.chip.specs.declared.bus_frame.Reply.TheVariants.{Done}
use Rattle.fault.specs.Refusals.{fault_at}
use Rattle.fault.specs.declared.Refusal.TheVariants.{NoStrobe}
use Rattle.port.specs.Requests.{Request, place}
use Rattle.port.specs.Acts.{Act, exchanged, pulsed, Acts, done, next, is_lost, any_lost, Follows}
use Rattle.port.specs.Answers.{frames_in, low_in, traffic_of, last_answer, answer_of, good_count}
use Rattle.port.specs.Plans.{Task}
use Rattle.port.specs.declared.traffic.Traffic.{Traffic}

module _ {X : Type 0} (meaning : X → Meaning) (gives : X → Event → X → Type 0) where
  -- some acts, and then others
  pub acts_joined : (c d e : X) (xs ys : List Act) → Acts meaning gives c xs d → Acts meaning gives d ys e
      → Acts meaning gives c (xs ++ ys) e
  acts_joined c d e [] ys done more = more
  acts_joined c d e (x ∷ xs) ys (next {d = m} one rest) more = next one (acts_joined m d e xs ys rest more)

-- where no act of the first list is lost, those of the second decide
pub any_lost-append : (xs ys : List Act) → any_lost xs ≡ false → any_lost (xs ++ ys) ≡ any_lost ys
any_lost-append [] ys none = refl
any_lost-append (x ∷ xs) ys none =
    let (here, later) = or_parts (is_lost x) (any_lost xs) none in
    ap (λ b. b || any_lost (xs ++ ys)) here ∙ any_lost-append xs ys later

-- a plan ends with its last act, whether that is lost or not
pub ends : (lost : Bool) → MatchBool lost (◌≡◌ {A = List Act} [] []) (Follows [] [])
ends true = refl
ends false = refl

-- a plan that is carried out, and then another one
pub follows_joined : (p q : List Task) (xs ys : List Act) → Follows p xs → any_lost xs ≡ false → Follows q ys
    → Follows (p ++ q) (xs ++ ys)
follows_joined [] q xs ys first none second = subst (λ zs. Follows q (zs ++ ys)) (sym first) second
follows_joined (task ∷ p) q [] ys never none second = absurd never
follows_joined (task ∷ p) q (x ∷ xs) ys (is, on) none second =
    let (here, later) = or_parts (is_lost x) (any_lost xs) none in
    let more = MatchBool-at_false (xs ≡ []) (Follows p xs) here on in
    let rest = follows_joined p q xs ys more later second in
    (is, subst (λ b. MatchBool b (xs ++ ys ≡ []) (Follows (p ++ q) (xs ++ ys))) (sym here) rest)

-- where the acts of two lists end done, so do those of both
pub last_answer-append : (xs ys : List Act) → last_answer xs ≡ Ok Done → last_answer ys ≡ Ok Done
    → last_answer (xs ++ ys) ≡ Ok Done
last_answer-append [] ys first second = second
last_answer-append (x ∷ []) [] first second = first
last_answer-append (x ∷ []) (y ∷ ys) first second = second
last_answer-append (x ∷ (y ∷ zs)) ys first second = last_answer-append (y ∷ zs) ys first second

-- ---- traffic

-- of one act, and others behind it
pub traffic_of-cons : (x : Act) (xs : List Act)
    → traffic_of (x ∷ xs)
    ≡ record { frames = frames_in x + sum_by frames_in xs; clocks = low_in x + sum_by low_in xs }
traffic_of-cons x xs = λ i. record { frames = sum_by-cons frames_in x xs i; clocks = sum_by-cons low_in x xs i }

-- of two lists
pub traffic_of-append : (xs ys : List Act)
    → traffic_of (xs ++ ys)
    ≡ record {
      frames = sum_by frames_in xs + sum_by frames_in ys;
      clocks = sum_by low_in xs + sum_by low_in ys;
    }
traffic_of-append xs ys = λ i. record {
  frames = sum_by-append frames_in xs ys i;
  clocks = sum_by-append low_in xs ys i;
}

-- one frame more, of so many low clocks
abbrev pub with_frame : Traffic → ℕ → Traffic
with_frame t low = record { frames = t.frames + 1; clocks = t.clocks + low }

-- of acts, and one exchange behind them
pub traffic_more : (did : List Act) (x : Exchange) (t : Traffic) → t ≡ traffic_of did
    → with_frame t x.low ≡ traffic_of (did ++ exchanged x ∷ [])
traffic_more did x t is =
    ap (λ u. with_frame u x.low) is
    ∙ λ i. record {
      frames = sym (sum_by_push frames_in did (exchanged x)) i;
      clocks = sym (sum_by_push low_in did (exchanged x)) i;
    }

-- ---- answers

-- where no act is lost, the last is no fault
pub last_found : (acts : List Act) → any_lost acts ≡ false → is_err (last_answer acts) ≡ false
last_found [] e = refl
last_found (exchanged x ∷ []) e = (or_parts (is_err x.answer) false e).0
last_found (pulsed n ∷ []) e = refl
last_found (act ∷ (other ∷ rest)) e =
    last_found (other ∷ rest) (or_parts (is_lost act) (any_lost (other ∷ rest)) e).1

-- a request is answered by a fault exactly where an act is lost
pub lost_is_err : (buffer : List ℕ) (q : Request) (acts : List Act)
    → is_err (answer_of buffer q acts) ≡ any_lost acts
lost_is_err buffer q acts = by_lost (any_lost acts) refl
  where
    by_lost : (lost : Bool) → any_lost acts ≡ lost
        → is_err (if lost then Err (fault_at (NoStrobe (good_count buffer q acts)) (place q)) else last_answer acts) ≡ lost
    by_lost true is = refl
    by_lost false is = last_found acts is
