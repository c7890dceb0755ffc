-- What a port does over values of a chip, it does over what they show, where that has the same meaning and the chip's
-- own account implies its account.
use Rattle.std.proofs.Common.{◌≡◌, ℕ, ◌<◌, List, [], ◌∷◌, Some, None, Option, ap}
use Rattle.fault.specs.declared.Refusal.{Refusal}
use Rattle.chip.specs.Meaning.{Meaning}
use Rattle.chip.specs.Runs.{Happens}
use Rattle.chip.specs.Sent.{Event, sending, resetting}
use Rattle.model.specs.Contents.{Contents, meaning}
use Rattle.model.specs.Step.{Exactly}
use Rattle.port.specs.Acts.{Act, exchanged, pulsed, IsAct, Acts, done, next}
use Rattle.port.specs.Requests.{refusal}
use Rattle.port.specs.Serves.{Woken, Transaction, Judged, Serves, woken}
use Rattle.runs.specs.Histories.{History, begun, onward}
use Rattle.runs.specs.Serving.{Came}
use Rattle.scrambler.specs.Scramblers.{scrambler, Scrambled}
use Rattle.window.specs.Windows.{window, Windowed}
use Rattle.script.specs.Commands.{Instruction}
use Rattle.script.specs.Openings.{Fields}
use Rattle.script.specs.declared.opening.Stack.TheVariants.{Plain, Keyed}
use Rattle.run_script.specs.Chips.{Narrowed, narrowed_meaning, NarrowedGives, keyed_meaning, KeyedGives, IsModelOf}
use Rattle.run_script.specs.Chips as chips
use Rattle.run_script.specs.Sessions.{Session, SessionBy}

module _ {X Y : Type 0} (show : X → Y) (meaning : Y → Meaning) (own : X → Event → X → Type 0)
    (gives : Y → Event → Y → Type 0)
    (implies : (c : X) (e : Event) (d : X) → own c e d → gives (show c) e (show d)) where
  abbrev means : X → Meaning
  means c = meaning (show c)

  -- the port over what its chip shows
  abbrev shown : Woken X → Woken Y
  shown p = woken (show p.chip) p.lost

  pub happens_shown : (c : X) (e : Event) (d : X) → Happens means own c e d → Happens meaning gives (show c) e (show d)
  happens_shown c e d h = record { own = implies c e d h.own; does = h.does }

  act_shown : (c : X) (act : Act) (d : X) → IsAct means own c act d → IsAct meaning gives (show c) act (show d)
  act_shown c (exchanged x) d is = record {
    happens = happens_shown c _ d is.happens;
    fits = is.fits;
    soonest = is.soonest;
    taken = is.taken;
    low = is.low;
  }
  act_shown c (pulsed n) d is = record { happens = happens_shown c _ d is.happens; taken = is.taken }

  acts_shown : (c : X) (acts : List Act) (d : X) → Acts means own c acts d → Acts meaning gives (show c) acts (show d)
  acts_shown c [] d done = done
  acts_shown c (act ∷ acts) d (next {d = e} one rest) = next (act_shown c act e one) (acts_shown e acts d rest)

  judged_shown : (o : Option Refusal) (p : Woken X) (t : Transaction) (q : Woken X) → Judged means own o p t q
      → Judged meaning gives o (shown p) t (shown q)
  judged_shown (Some e) p t q is = record {
    answer = is.answer;
    port = ap shown is.port;
    acts = is.acts;
    traffic = is.traffic;
    buffer = is.buffer;
  }
  judged_shown None p t q (is, lost) = (
    record {
      acts = acts_shown p.chip t.acts q.chip is.acts;
      follows = is.follows;
      answer = is.answer;
      traffic = is.traffic;
      buffer = is.buffer;
    },
    lost,
  )

  serves_shown : (p : Woken X) (t : Transaction) (q : Woken X) → Serves means own p t q
      → Serves meaning gives (shown p) t (shown q)
  serves_shown p t q is = record {
    fits = is.fits;
    judged = judged_shown (refusal (means p.chip) p.lost t.request) p t q is.judged;
  }

  history_shown : (p : Woken X) (ts : List Transaction) (q : Woken X) → History means own p ts q
      → History meaning gives (shown p) ts (shown q)
  history_shown p [] q begun = begun
  history_shown p (t ∷ ts) q (onward {q = r} one rest) = onward (serves_shown p t r one) (history_shown r ts q rest)

  -- so a session over a chip is one over what it shows
  pub session_shown : (c : X) (cs : List (ℕ × Instruction)) (rs : List Came) → Session means own c cs rs
      → Session meaning gives (show c) cs rs
  session_shown c cs rs s = record {
    woke = s.woke;
    woken = shown s.woken;
    wakes = record {
      unwoken = s.wakes.unwoken;
      acts = acts_shown c s.woke s.woken.chip s.wakes.acts;
      follows = s.wakes.follows;
      none_lost = s.wakes.none_lost;
    };
    transactions = s.transactions;
    last = shown s.last;
    history = history_shown s.woken s.transactions s.last s.history;
    asked = s.asked;
    came = s.came;
  }

  -- what a window does over a chip, it does over what the chip shows
  pub windowed_shown : (h : ℕ) (c : X) (e : Event) (k : ℕ) (d : X) → Windowed means own h c e k d
      → Windowed meaning gives h (show c) e k (show d)
  windowed_shown h c (sending gap f old r new) k d (same, s) =
      (same, record { answer = s.answer; sends = happens_shown c _ d s.sends; comes_back = s.comes_back })
  windowed_shown h c (resetting pulse r) k d (same, s) = (same, happens_shown c _ d s)

  -- and so does a scrambler
  pub scrambled_shown : (key : List ℕ) (c : X) (e : Event) (other : List ℕ) (d : X)
      → Scrambled means own key c e other d → Scrambled meaning gives key (show c) e other (show d)
  scrambled_shown key c (sending gap f old r new) other d (same, s) =
      (same, record { buffer = s.buffer; sends = happens_shown c _ d s.sends; comes_back = s.comes_back })
  scrambled_shown key c (resetting pulse r) other d (same, s) = (same, happens_shown c _ d s)

-- ---- models, bare and in a stack, seen through projections

-- a session over the bare model of an opening
pub bare_session : {M : Type 0} (m : M) (show : M → Contents) (f : Fields) (cs : List (ℕ × Instruction))
    (rs : List Came) → IsModelOf f (show m)
    → Session (λ x. meaning (show x)) (λ x e y. Exactly (show x) e (show y)) m cs rs
    → SessionBy Plain f cs rs
bare_session m show f cs rs fresh s =
    (show m, fresh, session_shown show meaning (λ x e y. Exactly (show x) e (show y)) Exactly (λ x e y h. h) m cs rs s)

module _ {S W M : Type 0} (s : S) (below : S → W) (chip : W → M) (show : M → Contents) (hidden : W → ℕ)
    (key : S → List ℕ) (left : (w : W) → hidden w < (show (chip w)).config.pages) where
  abbrev model_means : M → Meaning
  model_means m = meaning (show m)

  abbrev model_gives : M → Event → M → Type 0
  model_gives m e n = Exactly (show m) e (show n)

  abbrev window_means : W → Meaning
  window_means w = window (hidden w) (model_means (chip w)) (left w)

  abbrev window_gives : W → Event → W → Type 0
  window_gives w e v = Windowed model_means model_gives (hidden w) (chip w) e (hidden v) (chip v)

  abbrev stack_means : S → Meaning
  stack_means x = scrambler (key x) (window_means (below x))

  abbrev stack_gives : S → Event → S → Type 0
  stack_gives x e y = Scrambled window_means window_gives (key x) (below x) e (key y) (below y)

  -- all that a window and a scrambler hold
  abbrev narrowed : W → Narrowed
  narrowed w = record { chip = show (chip w); hidden = hidden w; page_left = left w }

  abbrev keyed : S → chips.Keyed
  keyed x = record { chip = narrowed (below x); key = key x }

  window_shown : (w : W) (e : Event) (v : W) → window_gives w e v → NarrowedGives (narrowed w) e (narrowed v)
  window_shown w e v h =
      windowed_shown show meaning model_gives Exactly (λ x e y h. h) (hidden w) (chip w) e (hidden v) (chip v) h

  stack_shown : (x : S) (e : Event) (y : S) → stack_gives x e y → KeyedGives (keyed x) e (keyed y)
  stack_shown x e y h =
      scrambled_shown narrowed narrowed_meaning window_gives NarrowedGives window_shown (key x) (below x) e (key y)
      (below y) h

  -- a session over the stack of an opening
  pub stack_session : (k : List ℕ) (f : Fields) (cs : List (ℕ × Instruction)) (rs : List Came)
      → IsModelOf f (show (chip (below s))) → hidden (below s) ≡ 1 → key s ≡ k
      → Session stack_means stack_gives s cs rs → SessionBy (Keyed k) f cs rs
  stack_session k f cs rs fresh hides same over = (
    keyed s,
    record { key_is = same; hides = hides; model = fresh },
    session_shown keyed keyed_meaning stack_gives KeyedGives stack_shown s cs rs over,
  )
