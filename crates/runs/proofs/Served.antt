-- Whole requests, one after another, from a port that has just been woken: what holds of each, and all that was done.
use Rattle.std.proofs.Common.{◌≡◌, List, [], ◌∷◌, Some, None, Option, sym, subst, ◌∙◌}
use Rattle.std.specs.Prelude.{All}
use Rattle.std.proofs.lemmas.List.Concat.{flat_map-cons}
use Rattle.std.proofs.lemmas.List.Elements.{All-cons, All-nil}
use Rattle.fault.specs.declared.Refusal.{Refusal}
use Rattle.chip.specs.Meaning.{Meaning}
use Rattle.chip.specs.Sent.{Event}
use Rattle.chip.specs.declared.config.Config.{Config}
use Rattle.port.specs.Acts.{Acts, done}
use Rattle.port.specs.Requests.{refusal}
use Rattle.port.specs.Serves.{Woken, Transaction, Judged, Serves}
use Rattle.port.specs.Wakes.{IsReady}
use Rattle.runs.specs.Histories.{History, IsFresh, begun, onward}
use Rattle.runs.specs.Shorts.{acts_of}
use Rattle.port.proofs.ActLists.{acts_joined}
use Rattle.port.proofs.Ready.{ready_kept, config_kept, woken_ready}

-- a port that has just been woken is ready
pub fresh_ready : {X : Type 0} (meaning : X → Meaning) (gives : X → Event → X → Type 0) (p : Woken X)
    → IsFresh meaning gives p → IsReady (meaning p.chip)
fresh_ready meaning gives p (c, (acts, wakes)) = woken_ready meaning gives c acts p wakes

module _ {X : Type 0} (meaning : X → Meaning) (gives : X → Event → X → Type 0) where
  -- the acts of a request, refused or taken
  judged_acts : (o : Option Refusal) (p q : Woken X) (t : Transaction) → Judged meaning gives o p t q
      → Acts meaning gives p.chip t.acts q.chip
  judged_acts (Some e) p q t refuses =
      subst (λ acts. Acts meaning gives p.chip acts q.chip) (sym refuses.acts)
      (subst (λ w. Acts meaning gives p.chip [] w.chip) (sym refuses.port) done)
  judged_acts None p q t (performs, lost) = performs.acts

  -- the acts of a request lead from the chip before it to the chip after it, a refused one's too
  pub served_acts : (p q : Woken X) (t : Transaction) → Serves meaning gives p t q
      → Acts meaning gives p.chip t.acts q.chip
  served_acts p q t serves = judged_acts (refusal (meaning p.chip) p.lost t.request) p q t serves.judged

  -- the acts of all requests
  pub history_acts : (p q : Woken X) (ts : List Transaction) → History meaning gives p ts q
      → Acts meaning gives p.chip (acts_of ts) q.chip
  history_acts p q [] begun = done
  history_acts p q (t ∷ ts) (onward {q = r} one rest) =
      subst (λ acts. Acts meaning gives p.chip acts q.chip) (sym (flat_map-cons (λ (u : Transaction). u.acts) t ts))
      (acts_joined meaning gives p.chip r.chip q.chip t.acts (acts_of ts) (served_acts p r t one)
      (history_acts r q ts rest))

  -- what holds of each request to a ready chip with a configuration holds of each in a history
  pub each_served : (P : Transaction → Type 0) (k : Config)
      → ((p q : Woken X) (t : Transaction) → IsReady (meaning p.chip) → (meaning p.chip).config ≡ k
      → Serves meaning gives p t q → P t)
      → (p q : Woken X) (ts : List Transaction) → IsReady (meaning p.chip) → (meaning p.chip).config ≡ k
      → History meaning gives p ts q → All P ts
  each_served P k holds p q [] ready same begun = All-nil P
  each_served P k holds p q (t ∷ ts) ready same (onward {q = r} one rest) =
      All-cons P t ts (holds p r t ready same one)
      (each_served P k holds r q ts (ready_kept meaning gives p r t ready one)
      ((config_kept meaning gives p r t ready one).config ∙ same) rest)
