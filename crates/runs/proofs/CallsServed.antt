-- Calls served one after another.
use Rattle.std.proofs.Common.{◌≡◌, ℕ, List, [], ◌∷◌, ◌++◌, refl, sym, ap, ◌∙◌, subst, length, take, drop, Ok, Err, Result}
use Rattle.std.specs.Prelude.{OnErr}
use Rattle.std.proofs.lemmas.List.{append-nil, append_assoc, map-append}
use Rattle.std.proofs.Math.Seq.{take-append_seam}
use Rattle.chip.specs.Meaning.{Meaning}
use Rattle.chip.specs.Sent.{Event}
use Rattle.port.specs.Serves.{Woken, Transaction}
use Rattle.runs.specs.Histories.{History, begun, onward}
use Rattle.runs.specs.Serving.{ServesOne, ServesAll, asked, asked_in, came, came_in}
use Rattle.runs.specs.declared.serving.Call.{Call}
use Rattle.runs.specs.declared.serving.Response.{Response}

-- a buffer that was lent whole is the one that comes back
pub taken_back : (n : ℕ) (bytes old : List ℕ) → length bytes ≡ n → take n (bytes ++ drop (length bytes) old) ≡ bytes
taken_back n bytes old long =
    let rest = drop (length bytes) old in
    ap (λ k. take k (bytes ++ rest)) (sym long) ∙ take-append_seam bytes rest

-- what holds always holds of an error
pub on_err : {T E : Type 0} {P : Type 0} (r : Result T E) → P → OnErr r P
on_err (Ok x) p = tt
on_err (Err e) p = p

module _ {X : Type 0} (meaning : X → Meaning) (gives : X → Event → X → Type 0) where
  -- a history, and then another
  pub history_joined : (p q r : Woken X) (ts us : List Transaction) → History meaning gives p ts q
      → History meaning gives q us r → History meaning gives p (ts ++ us) r
  history_joined p q r [] us begun more = more
  history_joined p q r (t ∷ ts) us (onward {q = o} one rest) more = onward one (history_joined o q r ts us rest more)

  -- no call yet
  pub serves_none : (p : Woken X) (old : List Response) → ServesAll meaning gives p [] old old p
  serves_none p old = record {
    transactions = [];
    history = begun;
    calls = refl;
    added = [];
    behind = sym (append-nil old);
    responses = refl;
    goes_on = λ start before history. subst (λ ts. History meaning gives start ts p) (sym (append-nil before)) history;
  }

  -- one call more
  pub serves_more : (p q r : Woken X) (list : List Call) (old new all : List Response) (call : Call)
      → ServesAll meaning gives p list old new q → ServesOne meaning gives q call new all r
      → ServesAll meaning gives p (list ++ call ∷ []) old all r
  serves_more p q r list old new all call sofar one =
      let t = one.transaction in
      let more = history_joined p q r sofar.transactions (t ∷ []) sofar.history (onward one.serves begun) in
      record {
        transactions = sofar.transactions ++ t ∷ [];
        history = more;
        calls =
            map-append asked_in sofar.transactions (t ∷ []) ∙ (λ i. sofar.calls i ++ one.call_is i ∷ [])
            ∙ sym (map-append asked list (call ∷ []));
        added = sofar.added ++ one.response ∷ [];
        behind =
            one.behind ∙ ap (λ rs. rs ++ one.response ∷ []) sofar.behind
            ∙ append_assoc old sofar.added (one.response ∷ []);
        responses =
            map-append came sofar.added (one.response ∷ []) ∙ (λ i. sofar.responses i ++ one.response_is i ∷ [])
            ∙ sym (map-append came_in sofar.transactions (t ∷ []));
        goes_on = λ start before history.
            history_joined start p r before (sofar.transactions ++ t ∷ []) history more;
      }
