-- A history of a chip is one of what it means alone.
use Rattle.std.proofs.Common.{List, [], ◌∷◌, Some, None, Option, ap}
use Rattle.fault.specs.declared.Refusal.{Refusal}
use Rattle.chip.specs.Chains.{event_of}
use Rattle.chip.specs.Meaning.{Meaning}
use Rattle.chip.specs.Runs.{Does, Happens}
use Rattle.chip.specs.Sent.{Event}
use Rattle.port.specs.Acts.{Act, exchanged, pulsed, IsAct, Acts, done, next}
use Rattle.port.specs.Requests.{refusal}
use Rattle.port.specs.Serves.{Woken, Transaction, Judged}
use Rattle.runs.specs.Histories.{History, IsFresh, begun, onward}
use Rattle.runs.specs.Twins.{meant, IsMeant}

module _ {X : Type 0} (meaning : X → Meaning) (gives : X → Event → X → Type 0) where
  happens_meant : (c d : X) (e : Event) → Happens meaning gives c e d
      → Happens (λ m. m) Does (meaning c) e (meaning d)
  happens_meant c d e h = record { own = h.does; does = h.does }

  act_meant : (c d : X) (act : Act) → IsAct meaning gives c act d → IsAct (λ m. m) Does (meaning c) act (meaning d)
  act_meant c d (exchanged x) h = record {
    happens = happens_meant c d (event_of x) h.happens;
    fits = h.fits;
    soonest = h.soonest;
    taken = h.taken;
    low = h.low;
  }
  act_meant c d (pulsed n) h = record { happens = happens_meant c d _ h.happens; taken = h.taken }

  acts_meant : (c e : X) (acts : List Act) → Acts meaning gives c acts e
      → Acts (λ m. m) Does (meaning c) acts (meaning e)
  acts_meant c e [] done = done
  acts_meant c e (act ∷ rest) (next {d = d} one more) =
      next {d = meaning d} (act_meant c d act one) (acts_meant d e rest more)

  judged_meant : (o : Option Refusal) (p q : Woken X) (t : Transaction) → Judged meaning gives o p t q
      → Judged (λ m. m) Does o (meant meaning p) t (meant meaning q)
  judged_meant (Some e) p q t r = record {
    answer = r.answer;
    port = ap (meant meaning) r.port;
    acts = r.acts;
    traffic = r.traffic;
    buffer = r.buffer;
  }
  judged_meant None p q t (performs, lost) = (
    record {
      acts = acts_meant p.chip q.chip t.acts performs.acts;
      follows = performs.follows;
      answer = performs.answer;
      traffic = performs.traffic;
      buffer = performs.buffer;
    },
    lost,
  )

  pub history_meant : (p q : Woken X) (ts : List Transaction) → History meaning gives p ts q
      → History (λ m. m) Does (meant meaning p) ts (meant meaning q)
  history_meant p q [] begun = begun
  history_meant p q (t ∷ ts) (onward {q = r} one rest) =
      onward {q = meant meaning r}
      (record { fits = one.fits; judged = judged_meant (refusal (meaning p.chip) p.lost t.request) p r t one.judged })
      (history_meant r q ts rest)

  pub fresh_meant : (p : Woken X) → IsFresh meaning gives p → IsFresh (λ m. m) Does (meant meaning p)
  fresh_meant p (c, (xs, wakes)) = (
    meaning c,
    (
      xs,
      record {
        unwoken = wakes.unwoken;
        acts = acts_meant c p.chip xs wakes.acts;
        follows = wakes.follows;
        none_lost = wakes.none_lost;
      },
    ),
  )

  pub is_meant : IsMeant meaning gives
  is_meant = record { fresh = fresh_meant; history = history_meant }
