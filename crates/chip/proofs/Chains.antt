-- What is true of every chain. Assumes nothing.
use Rattle.std.proofs.Common.{◌≡◌, ℕ, ◌+◌, ◌*◌, ◌≤◌, Bool, true, false, List, [], ◌∷◌, ◌++◌, length, sum_by, None, sym, refl, ap, ◌∙◌, subst, arith}
use Rattle.std.specs.Prelude.{All}
use Rattle.std.proofs.lemmas.Bool.{ltb-false}
use Rattle.std.proofs.lemmas.List.Elements.{All-cons, All-nil}
use Rattle.std.proofs.lemmas.List.Sums.{sum_by-cons}
use Rattle.frame.specs.Low.{saturated}
use Rattle.clock.specs.Times.{clocks}
use Rattle.chip.specs.Chains.{Exchange, event_of, IsExchange, Chain, done, next, IsRun, KeepsTcem, CountsRise, IsChain}
use Rattle.chip.specs.Exchanges.{least_gap_of, exchange_of, IsRunStep, LengthensChains}
use Rattle.chip.specs.Free.{FreeByFrame}
use Rattle.chip.specs.LowClocks.{low_for}
use Rattle.chip.specs.Meaning.{Meaning, read_latency, most_low}
use Rattle.chip.specs.Refused.{refused}
use Rattle.chip.specs.Runs.{refusal, IsWake, still, onward, frames_in, clocks_in, unless_refused, CountsFit, RisesBy}
use Rattle.chip.specs.Sent.{sent, send_event, FitsBuffer, Sent, read, write, register_read, register_write, global_reset, Event, Answer}
use Rattle.chip.specs.Taken.{ended, Taken, Judged, Sends}
use Rattle.chip.specs.declared.bus_frame.Frame.{Frame}
use Rattle.chip.specs.declared.bus_frame.Frame.TheVariants as frame
use Rattle.chip.specs.declared.config.Config.{Config}
use Rattle.chip.specs.declared.state.Phase.TheVariants.{Awake}
use Rattle.chip.specs.declared.state.State.{State}
use Rattle.chip.proofs.Counts.{risen, risen_on, still_fit}
use Rattle.chip.proofs.Steps.{config_of}
use Rattle.chip.proofs.Tests.{good_length, wakes_not}

-- ---- one frame that is taken

-- the latest low clocks are those of the frame
low_after : (k : Config) (s : State) (f : Sent) (low : ℕ) (strobe : Bool) → (ended k s f low strobe).latest_low ≡ low
low_after k s (read b a n) low strobe = refl
low_after k s (write b a d m) low strobe = refl
low_after k s (register_read r) low strobe = refl
low_after k s (register_write r v) low strobe = refl
low_after k s global_reset low strobe = refl

-- a chip that takes a frame is awake after it, where it was before
awake_after : (k : Config) (s : State) (f : Sent) (low : ℕ) (strobe : Bool) → s.phase ≡ Awake → (ended k s f low strobe).phase ≡ Awake
awake_after k s (read b a n) low strobe awake = awake
awake_after k s (write b a d m) low strobe awake = awake
awake_after k s (register_read r) low strobe awake = awake
awake_after k s (register_write r v) low strobe awake = awake
awake_after k s global_reset low strobe awake = refl

-- a longer latency makes no frame shorter
low_most : (k : Config) (s : State) (f : Sent) (l most : ℕ) → l ≤ most → low_for k s f l ≤ low_for k s f most
low_most k s (read b a n) l most h = omega arith
low_most k s (write b a d m) l most h = omega arith
low_most k s (register_read r) l most h = omega arith
low_most k s (register_write r v) l most h = omega arith
low_most k s global_reset l most h = omega arith

-- what a frame that is taken does, found by that it is not refused
pub taken_by : (m n : Meaning) (gap : ℕ) (f : Sent) (old new : List ℕ) (r : Answer) → Sends m gap f old r n new → refused m.config m.state gap f ≡ None → (free : FreeByFrame) × Taken m f free old r n new
taken_by m n gap f old new r sends none = subst (λ o. Judged o m f old r n new) none sends.judged

short : (m n : Meaning) (gap : ℕ) (f : Sent) (old new : List ℕ) (r : Answer) → Sends m gap f old r n new → refused m.config m.state gap f ≡ None → n.state.latest_low ≤ most_low m.config
short m n gap f old new r sends none =
    let (free, t) = taken_by m n gap f old new r sends none in
    let is : n.state.latest_low ≡ low_for m.config m.state f free.latency =
    ap (λ s. s.latest_low) t.state ∙ low_after m.config m.state f (low_for m.config m.state f free.latency) free.strobe in
    let most = low_most m.config m.state f free.latency (2 * clocks (read_latency m.state)) t.allowed.latency.most in
    let fits = ltb-false (most_low m.config) (low_for m.config m.state f (2 * clocks (read_latency m.state))) (good_length m.config m.state gap f none) in
    omega arith

stays_awake : (m n : Meaning) (gap : ℕ) (f : Sent) (old new : List ℕ) (r : Answer) → Sends m gap f old r n new → refused m.config m.state gap f ≡ None → m.state.phase ≡ Awake → n.state.phase ≡ Awake
stays_awake m n gap f old new r sends none awake =
    let (free, t) = taken_by m n gap f old new r sends none in
    ap (λ s. s.phase) t.state ∙ awake_after m.config m.state f (low_for m.config m.state f free.latency) free.strobe awake

-- ---- one exchange

module _ {X : Type 0} (meaning : X → Meaning) (gives : X → Event → X → Type 0) (c : X) (x : Exchange) (d : X) (one : IsExchange meaning gives c x d) where
  low_is : x.low ≡ clocks_in (meaning c) (event_of x) (meaning d)
  low_is = one.low ∙ ap (λ o. unless_refused o (meaning d).state.latest_low) (sym one.taken)

  one_frame : 1 ≡ frames_in (meaning c) (event_of x) (meaning d)
  one_frame = ap (λ o. unless_refused o 1) (sym one.taken)

  never : (meaning c).state.phase ≡ Awake → IsWake (meaning c) (event_of x) → ⊥
  never awake (none, is) =
      let e : true ≡ false = sym is ∙ wakes_not (meaning c).config (meaning c).state x.gap x.frame awake none in cc

  -- the counts rise by one frame and its low clocks
  pub one_rises : (meaning c).state.phase ≡ Awake → CountsFit (meaning c) → RisesBy (meaning c) 1 x.low (meaning d)
  one_rises awake fit =
      let rises = risen (meaning c) (meaning d) (event_of x) one.happens.does fit (never awake) in
      subst (λ k. RisesBy (meaning c) k x.low (meaning d)) (sym one_frame)
      (subst (λ k. RisesBy (meaning c) (frames_in (meaning c) (event_of x) (meaning d)) k (meaning d)) (sym low_is) rises)

  pub one_short : x.low ≤ most_low (meaning c).config
  one_short =
      subst (λ k. k ≤ most_low (meaning c).config) (sym one.low)
      (short (meaning c) (meaning d) x.gap x.frame x.before x.after x.answer one.happens.does one.taken)

-- ---- a chain

module _ {X : Type 0} (meaning : X → Meaning) (gives : X → Event → X → Type 0) where
  is_run : (c d : X) (xs : List Exchange) → Chain meaning gives c xs d → IsRun (meaning c) xs (meaning d)
  is_run c d [] done = record { steps = []; events = refl; runs = still }
  is_run c d (x ∷ xs) (next {d = e} one rest) =
      let more = is_run e d xs rest in
      record {
        steps = record { event = event_of x; after = meaning e } ∷ more.steps;
        events = ap (λ es. event_of x ∷ es) more.events;
        runs = onward one.happens.does more.runs;
      }

  keeps_tcem : (c d : X) (xs : List Exchange) → Chain meaning gives c xs d → KeepsTcem (meaning c) xs
  keeps_tcem c d [] done = All-nil _
  keeps_tcem c d (x ∷ xs) (next {d = e} one rest) =
      All-cons (λ y. y.low ≤ most_low (meaning c).config) x xs (one_short meaning gives c x e one)
      (subst (λ k. All (λ y. y.low ≤ most_low k) xs) (config_of (meaning c) (meaning e) (event_of x) one.happens.does).config (keeps_tcem e d xs rest))

  counts_rise : (c d : X) (xs : List Exchange) → Chain meaning gives c xs d → CountsRise (meaning c) xs (meaning d)
  counts_rise c d [] done awake fit = record { frames = omega (arith, fit.frames); clocks = omega (arith, fit.clocks) }
  counts_rise c d (x ∷ xs) (next {d = e} one rest) awake fit =
      let first = one_rises meaning gives c x e one awake fit in
      let still_awake = stays_awake (meaning c) (meaning e) x.gap x.frame x.before x.after x.answer one.happens.does one.taken awake in
      let more = counts_rise e d xs rest still_awake (still_fit (meaning c) (meaning e) 1 x.low first) in
      let sums = risen_on (meaning c) (meaning e) (meaning d) 1 x.low (length xs) (sum_by (λ y. y.low) xs) first more in
      let low = sum_by-cons (λ (y : Exchange). y.low) x xs in
      record { frames = omega (arith, sums.frames); clocks = sums.clocks ∙ ap (λ k. saturated ((meaning c).state.clocks + k)) (sym low) }

  pub every_chain : (c d : X) (xs : List Exchange) → Chain meaning gives c xs d → IsChain (meaning c) xs (meaning d)
  every_chain c d xs chain = record { run = is_run c d xs chain; short = keeps_tcem c d xs chain; counted = counts_rise c d xs chain }

  -- a chain, and one more exchange
  pub lengthened : (b c d : X) (xs : List Exchange) (x : Exchange) → Chain meaning gives b xs c → IsExchange meaning gives c x d → Chain meaning gives b (xs ++ x ∷ []) d
  lengthened b c d [] x done one = next one done
  lengthened b c d (y ∷ ys) x (next {d = e} first rest) one = next first (lengthened e c d ys x rest one)

-- ---- one call of `send`

pub sent_fits : (f : Frame) (buffer : List ℕ) → FitsBuffer (sent f (length buffer)) buffer
sent_fits (frame.Read b a) buffer = refl
sent_fits (frame.Write b a d k) buffer = tt
sent_fits (frame.RegisterRead r) buffer = tt
sent_fits (frame.RegisterWrite r v) buffer = tt
sent_fits frame.GlobalReset buffer = tt

module _ {X : Type 0} (meaning : X → Meaning) (gives : X → Event → X → Type 0) (c d : X) (f : Frame) (old new : List ℕ) (r : Answer) (low : ℕ) where
  pub lengthens_chains : (gap : ℕ) → gives c (send_event gap f old r new) d → IsRunStep (meaning c) (send_event gap f old r new) low (meaning d) → LengthensChains meaning gives c (exchange_of gap f old r new low) d
  lengthens_chains gap own step =
      let x = exchange_of gap f old r new low in
      let one : x.gap ≡ least_gap_of (meaning c) → refusal (meaning c) (event_of x) ≡ None → IsExchange meaning gives c x d =
      λ soonest taken. record {
        happens = record { own = own; does = step.does };
        fits = sent_fits f old;
        soonest = soonest;
        taken = taken;
        low = step.clocks ∙ ap (λ o. unless_refused o (meaning d).state.latest_low) taken;
      } in
      record { is_exchange = one; lengthens = λ soonest taken start xs chain. lengthened meaning gives start c d xs x chain (one soonest taken) }

  -- what one call comes to, by its gap
  abbrev pub Call : ℕ → Type 0
  Call gap = gives c (send_event gap f old r new) d × IsRunStep (meaning c) (send_event gap f old r new) low (meaning d) × LengthensChains meaning gives c (exchange_of gap f old r new low) d

  pub at_gap : (gap least : ℕ) → gap ≡ least → Call gap → Call least
  at_gap gap least is = subst Call is
