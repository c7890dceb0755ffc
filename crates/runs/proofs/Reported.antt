-- What the requests of a history report is all that was done.
use Rattle.std.proofs.Common.{◌≡◌, ℕ, List, [], ◌∷◌, sum_by, Some, None, Option, sym, refl, ap, ◌∙◌, arith}
use Rattle.std.proofs.lemmas.List.Concat.{flat_map-cons}
use Rattle.std.proofs.lemmas.List.Sums.{sum_by-cons, sum_by-append}
use Rattle.fault.specs.declared.Refusal.{Refusal}
use Rattle.chip.specs.Meaning.{Meaning}
use Rattle.chip.specs.Sent.{Event}
use Rattle.port.specs.Acts.{Act}
use Rattle.port.specs.Answers.{traffic_of}
use Rattle.port.specs.Requests.{refusal}
use Rattle.port.specs.Serves.{Woken, Transaction, Judged, Serves}
use Rattle.runs.specs.Histories.{History, begun, onward}
use Rattle.runs.specs.Shorts.{acts_of}

module _ {X : Type 0} (meaning : X → Meaning) (gives : X → Event → X → Type 0) where
  judged_traffic : (o : Option Refusal) (p q : Woken X) (t : Transaction) → Judged meaning gives o p t q
      → t.traffic ≡ traffic_of t.acts
  judged_traffic (Some e) p q t refuses = refuses.traffic ∙ ap traffic_of (sym refuses.acts)
  judged_traffic None p q t (performs, lost) = performs.traffic

  -- the traffic that is reported of a request is that of what was done
  pub served_traffic : (p q : Woken X) (t : Transaction) → Serves meaning gives p t q
      → t.traffic ≡ traffic_of t.acts
  served_traffic p q t serves = judged_traffic (refusal (meaning p.chip) p.lost t.request) p q t serves.judged

  -- so is any sum of it over all requests
  pub sums_agree : (f : Transaction → ℕ) (g : Act → ℕ)
      → ((p q : Woken X) (t : Transaction) → Serves meaning gives p t q → f t ≡ sum_by g t.acts)
      → (p q : Woken X) (ts : List Transaction) → History meaning gives p ts q
      → sum_by f ts ≡ sum_by g (acts_of ts)
  sums_agree f g each p q [] begun = refl
  sums_agree f g each p q (t ∷ ts) (onward {q = r} one rest) =
      let here = each p r t one in
      let later = sums_agree f g each r q ts rest in
      let joined = ap (sum_by g) (flat_map-cons (λ (u : Transaction). u.acts) t ts) in
      omega (arith, sum_by-cons f t ts, here, later, joined, sum_by-append g t.acts (acts_of ts))
