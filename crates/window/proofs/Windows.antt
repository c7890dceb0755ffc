-- A window over a chip is a chip. Assumes nothing.
use Rattle.std.specs.Prelude.{◌≡◌, ℕ, zero, suc, ◌+◌, ◌-◌, ◌*◌, ◌%◌, ◌^◌, ◌<◌, ◌≤◌, Bool, true, false, cond, not, ◌&&◌, ◌||◌, leb, List, [], ◌∷◌, length, Some, None, Ok, Err, Decides, MatchBool, MatchResult, IsErrAnd, Option, Result, ◌==◌, nat_eq, nat_le, nat_lt, slice_index, refl}
use Rattle.std.proofs.Common.{Bor, sym, ap, subst, ◌∙◌, ⊎_elim, arith}
use Rattle.std.proofs.lemmas.Bool.{cases_lt, or_parts, or_right, leb-false, le-leb, lt-leb}
use Rattle.std.proofs.lemmas.Bool.Decides.{nat_tests}
use Rattle.std.proofs.lemmas.Result.{err_from_is_err_and}
use Rattle.frame.specs.Bursts.{burst_address}
use Rattle.frame.specs.Pages.{page}
use Rattle.frame.specs.declared.burst.Block.TheVariants.{Bytes16, Bytes32, Bytes64, Page}
use Rattle.frame.specs.declared.burst.Burst.{Burst}
use Rattle.frame.specs.declared.burst.Burst.TheVariants.{Linear, Wrapped, Hybrid}
use Rattle.frame.specs.declared.make.Make.{Make}
use Rattle.frame.specs.declared.make.Make.TheVariants as make
use Rattle.fault.specs.Refusals.{fault_at}
use Rattle.fault.specs.declared.Fault.{Fault}
use Rattle.fault.specs.declared.Refusal.{Refusal}
use Rattle.fault.specs.declared.Refusal.TheVariants.{WrongPhase, TooSoon, BadStart, BadCount, TooLong, BadRegister}
use Rattle.register.specs.declared.fields.Coverage.{Coverage}
use Rattle.chip.specs.Sent.{Sent, read, write, register_read, register_write, global_reset, sent, place, Event, sending, Answer}
use Rattle.chip.specs.Refused.{wakes, takes, least_gap, bad_start, bad_count, too_long, first_refusal, refused, is_bad_start}
use Rattle.chip.specs.Free.{FreeByFrame}
use Rattle.chip.specs.Taken.{after, address, written, stored, is_retained, is_answered, reply, answer_by, Filled, Taken, Judged, Sends}
use Rattle.chip.specs.Meaning.{Meaning, Lawful, size, refreshed, strobe_at}
use Rattle.chip.specs.Sizes.{largest_size}
use Rattle.chip.specs.Resets.{reset_refused, ResetJudged, Resets}
use Rattle.mask.specs.Masks.{masked}
use Rattle.register.specs.Registers.{on_wire}
use Rattle.chip.specs.declared.bus_frame.Frame.{Frame}
use Rattle.chip.specs.declared.bus_frame.Frame.TheVariants as frame
use Rattle.chip.specs.declared.config.Config.{Config}
use Rattle.chip.specs.declared.state.State.{State}
use Rattle.chip.proofs.Tests.{good_start}
use Rattle.chip.specs.Runs.{Does, Happens}
use Rattle.window.specs.Laws.{parts, window_equal, same_config_above}
use Rattle.window.specs.Windows.{shift, window_config, window, placed, moved, lowered, SentBelow}

-- ---- numbers

-- the burst of a start that is moved by whole pages is the burst, moved
address_moved : (m : Make) (b : Burst) (s q i : ℕ) → burst_address m b (s + q * page m) i ≡ burst_address m b s i + q * page m
address_moved make.A Linear s q i = omega arith
address_moved make.S Linear s q i = omega arith
address_moved make.A (Wrapped Bytes16) s q i = omega arith
address_moved make.A (Wrapped Bytes32) s q i = omega arith
address_moved make.A (Wrapped Bytes64) s q i = omega arith
address_moved make.A (Wrapped Page) s q i = omega arith
address_moved make.S (Wrapped Bytes16) s q i = omega arith
address_moved make.S (Wrapped Bytes32) s q i = omega arith
address_moved make.S (Wrapped Bytes64) s q i = omega arith
address_moved make.S (Wrapped Page) s q i = omega arith
address_moved make.A (Hybrid Bytes16) s q i = grind (arith, nat_tests)
address_moved make.A (Hybrid Bytes32) s q i = grind (arith, nat_tests)
address_moved make.A (Hybrid Bytes64) s q i = grind (arith, nat_tests)
address_moved make.A (Hybrid Page) s q i = omega arith
address_moved make.S (Hybrid Bytes16) s q i = grind (arith, nat_tests)
address_moved make.S (Hybrid Bytes32) s q i = grind (arith, nat_tests)
address_moved make.S (Hybrid Bytes64) s q i = grind (arith, nat_tests)
address_moved make.S (Hybrid Page) s q i = omega arith

-- an odd start, or one past the end, is one below too
start_same : (by whole part a : ℕ) → by % 2 ≡ 0 → part + by ≡ whole → whole ≤ largest_size → (a % 2 == 1 || nat_le part a) ≡ (moved by a % 2 == 1 || nat_le whole (moved by a))
start_same by whole part a even parts most =
    ⊎_elim
    (λ inside.
    let same : moved by a ≡ a + by = omega arith in
    let odd : a % 2 ≡ moved by a % 2 = omega arith in
    let out : leb part a ≡ leb whole (moved by a) = lt-leb part a inside ∙ sym (lt-leb whole (moved by a) (omega arith)) in
    λ i. (odd i == 1) || out i)
    (λ past. or_right _ _ (le-leb part a past) ∙ sym (or_right _ _ (le-leb whole (moved by a) (omega arith))))
    (cases_lt a part)

-- whole pages are even
even_pages : (m : Make) (q : ℕ) → q * page m % 2 ≡ 0
even_pages make.A q = omega arith
even_pages make.S q = omega arith

-- a range of addresses, moved
range_moved : (h : ℕ) (m : Meaning) (c : Coverage) (from count : ℕ) → Lawful m → ((a : ℕ) → moved (shift h m.config) from ≤ a → a < moved (shift h m.config) from + count → m.refreshes c a ≡ true) → (a : ℕ) → from ≤ a → a < from + count → m.refreshes c (a + shift h m.config) ≡ true
range_moved h m c from count law below a low high =
    ⊎_elim
    (λ fits. below (a + shift h m.config) (omega arith) (omega arith))
    (λ past.
    let first = law.inside c (2 ^ 32 - 1) (below (2 ^ 32 - 1) (omega arith) (omega arith)) in
    absurd (omega (arith, m.config.within_16_mib)))
    (cases_lt (from + shift h m.config) (2 ^ 32))

range_back : (h : ℕ) (m : Meaning) (c : Coverage) (from count : ℕ) → Lawful m → ((a : ℕ) → from ≤ a → a < from + count → m.refreshes c (a + shift h m.config) ≡ true) → (a : ℕ) → moved (shift h m.config) from ≤ a → a < moved (shift h m.config) from + count → m.refreshes c a ≡ true
range_back h m c from count law above a low high =
    ⊎_elim
    (λ fits.
    let back : a - shift h m.config + shift h m.config ≡ a = omega arith in
    subst (λ x. m.refreshes c x ≡ true) back (above (a - shift h m.config) (omega arith) (omega arith)))
    (λ past.
    let first = law.inside c (from + shift h m.config) (above from (omega arith) (omega arith)) in
    absurd (omega (arith, m.config.within_16_mib)))
    (cases_lt (from + shift h m.config) (2 ^ 32))

pub refreshed_moved : (h : ℕ) (m : Meaning) (c : Coverage) (from count low : ℕ) (r : Bool) → Lawful m → low ≡ moved (shift h m.config) from → Decides r ((a : ℕ) → low ≤ a → a < low + count → m.refreshes c a ≡ true) → Decides r ((a : ℕ) → from ≤ a → a < from + count → m.refreshes c (a + shift h m.config) ≡ true)
refreshed_moved h m c from count low r law is told =
    let at = subst (λ l. Decides r ((a : ℕ) → l ≤ a → a < l + count → m.refreshes c a ≡ true)) is told in
    (λ yes. range_moved h m c from count law (at.0 yes), λ all. at.1 (range_back h m c from count law all))

-- ---- one frame

-- what is free in the window
free_above : ℕ → FreeByFrame → FreeByFrame
free_above by f = record { strobe = f.strobe; latency = f.latency; byte = λ a. f.byte (a + by) }

same_test : (a b by : ℕ) → (a + by == b + by) ≡ (a == b)
same_test a b by = grind (arith, nat_tests)

-- a write through addresses that are moved
written_moved : (by : ℕ) (p q : ℕ → ℕ) (d m : List ℕ) (n a old : ℕ) → ((i : ℕ) → p i ≡ q i + by) → written p d m n (a + by) old ≡ written q d m n a old
written_moved by p q d m zero a old e = refl
written_moved by p q d m (suc i) a old e =
    let hit : nat_eq (p i) (a + by) ≡ nat_eq (q i) a = ap (λ x. nat_eq x (a + by)) (e i) ∙ same_test (q i) a by in
    λ j. cond (hit j && not (masked m i)) (slice_index d i) (written_moved by p q d m i a old e j)

when_both : {P Q P' Q' : Type 0} (b : Bool) → MatchBool b P Q → (P → P') → (Q → Q') → MatchBool b P' Q'
when_both true w f g = f w
when_both false w f g = g w

module _ (h : ℕ) (k : Config) (s : State) (some : h < k.pages) where
  start_below : (a : ℕ) → is_bad_start (window_config h k some) a ≡ is_bad_start k (moved (shift h k) a)
  start_below a = start_same (shift h k) (size k) (size (window_config h k some)) a (even_pages k.make h) (parts h k some) k.within_16_mib

  -- a frame is refused as the frame below is
  pub refused_below : (gap : ℕ) (f : Sent) → refused (window_config h k some) s gap f ≡ refused k s gap (lowered (shift h k) f)
  refused_below gap (read b a n) =
      ap (λ t. first_refusal ((not (takes s.phase false), WrongPhase) ∷ (nat_lt gap (least_gap k s), TooSoon) ∷ (t, BadStart) ∷ (bad_count (read b a n), BadCount) ∷ (too_long k s (read b a n), TooLong) ∷ (false, BadRegister) ∷ [])) (start_below a)
  refused_below gap (write b a d m) =
      ap (λ t. first_refusal ((not (takes s.phase false), WrongPhase) ∷ (nat_lt gap (least_gap k s), TooSoon) ∷ (t, BadStart) ∷ (bad_count (write b a d m), BadCount) ∷ (too_long k s (write b a d m), TooLong) ∷ (false, BadRegister) ∷ [])) (start_below a)
  refused_below gap (register_read n) = refl
  refused_below gap (register_write n v) = refl
  refused_below gap global_reset = refl

  -- a start that is taken lies in the window, and goes down unheld
  in_window : (a : ℕ) → is_bad_start (window_config h k some) a ≡ false → moved (shift h k) a ≡ a + shift h k
  in_window a e = let low = leb-false _ _ (or_parts (a % 2 == 1) _ e).1 in omega (arith, parts h k some)

  address_below : (b : Burst) (a i : ℕ) → is_bad_start (window_config h k some) a ≡ false → address k s b (moved (shift h k) a) i ≡ address (window_config h k some) s b a i + shift h k
  address_below b a i e =
      ap (λ x. burst_address k.make (on_wire b s.mr8) x i) (in_window a e) ∙ address_moved k.make (on_wire b s.mr8) a h i

  -- a write goes through the moved addresses as through the addresses
  stored_below : (f : Sent) (x old : ℕ) → bad_start (window_config h k some) f ≡ false → stored k s (lowered (shift h k) f) (x + shift h k) old ≡ stored (window_config h k some) s f x old
  stored_below (read b a n) x old e = refl
  stored_below (write b a d m) x old e = written_moved (shift h k) _ _ d m (length d) x old (λ i. address_below b a i e)
  stored_below (register_read n) x old e = refl
  stored_below (register_write n v) x old e = refl
  stored_below global_reset x old e = refl

  filled_below : (there : Bool) (f : Sent) (byte : ℕ → ℕ) (old new : List ℕ) → bad_start (window_config h k some) f ≡ false → Filled k s there (lowered (shift h k) f) byte old new → Filled (window_config h k some) s there f (λ a. byte (a + shift h k)) old new
  filled_below there (read b a n) byte old new e full =
      when_both there full (λ p. record { long = p.long; each = λ i in_it. p.each i in_it ∙ ap byte (address_below b a i e) }) (λ p. p)
  filled_below there (write b a d m) byte old new e full = full
  filled_below there (register_read n) byte old new e full = full
  filled_below there (register_write n v) byte old new e full = full
  filled_below there global_reset byte old new e full = full

  reply_below : (f : Sent) → reply k s (lowered (shift h k) f) ≡ reply (window_config h k some) s f
  reply_below (read b a n) = refl
  reply_below (write b a d m) = refl
  reply_below (register_read n) = refl
  reply_below (register_write n v) = refl
  reply_below global_reset = refl

  answer_below : (there : Bool) (f : Sent) → placed (place f) (answer_by k s there (lowered (shift h k) f)) ≡ answer_by (window_config h k some) s there f
  answer_below true f = ap (λ x. Ok x) (reply_below f)
  answer_below false f = refl

after_below : (h : ℕ) (k : Config) (s : State) (some : h < k.pages) (f : Sent) (free : FreeByFrame) → after k s (lowered (shift h k) f) free ≡ after (window_config h k some) s f (free_above (shift h k) free)
unfolding free_above
after_below h k s some (read b a n) free = refl
after_below h k s some (write b a d m) free = refl
after_below h k s some (register_read n) free = refl
after_below h k s some (register_write n v) free = refl
after_below h k s some global_reset free = refl

wakes_below : (by : ℕ) (f : Sent) → wakes (lowered by f) ≡ wakes f
wakes_below by (read b a n) = refl
wakes_below by (write b a d m) = refl
wakes_below by (register_read n) = refl
wakes_below by (register_write n v) = refl
wakes_below by global_reset = refl

answered_below : (h by : ℕ) (n : Meaning) (q : h < n.config.pages) (f : Sent) → is_answered n (lowered by f) ≡ is_answered (window h n q) f
answered_below h by n q (read b a c) = refl
answered_below h by n q (write b a d m) = refl
answered_below h by n q (register_read r) = refl
answered_below h by n q (register_write r v) = refl
answered_below h by n q global_reset = refl

retained_below : (h : ℕ) (m n : Meaning) (p : h < m.config.pages) (q : h < n.config.pages) (f : Sent) (x : ℕ) → n.config ≡ m.config → is_retained m n (lowered (shift h m.config) f) (x + shift h m.config) ≡ is_retained (window h m p) (window h n q) f x
retained_below h m n p q f x same =
    ap (λ w. not w && (strobe_at n x && (refreshed m (x + shift h m.config) && refreshed n (x + shift h m.config)))) (wakes_below (shift h m.config) f)
    ∙ ap (λ k. not (wakes f) && (strobe_at n x && (refreshed m (x + shift h m.config) && refreshed n (x + shift h k)))) (sym same)

-- from a chip that means m to one that means n, through a window that leaves a page of each
module _ (h : ℕ) (m n : Meaning) (p : h < m.config.pages) (q : h < n.config.pages) where
  -- a frame that is taken below is taken by the window
  taken_above : (f : Sent) (free : FreeByFrame) (old new : List ℕ) (r : Answer) → bad_start (window_config h m.config p) f ≡ false → Taken m (lowered (shift h m.config) f) free old r n new → Taken (window h m p) f (free_above (shift h m.config) free) old (placed (place f) r) (window h n q) new
  unfolding free_above
  taken_above f free old new r good t =
      let by = shift h m.config in
      let same = t.same.config in
      record {
        allowed = record { strobe = t.allowed.strobe; latency = t.allowed.latency };
        same = same_config_above h h m n refl t.same p q;
        state = t.state ∙ after_below h m.config m.state p f free;
        bytes = λ a in_it.
            ap (λ k. n.byte (a + shift h k)) same
            ∙ t.bytes (a + by) (omega (arith, parts h m.config p))
            ∙ (λ i. cond (retained_below h m n p q f a same i) (stored_below h m.config m.state p f a (m.byte (a + by)) good i) (free.byte (a + by)));
        answer =
            ap (placed (place f)) t.answer
            ∙ answer_below h m.config m.state p (is_answered n (lowered by f)) f
            ∙ ap (λ there. answer_by (window_config h m.config p) m.state there f) (answered_below h by n q f);
        buffer =
            subst (λ k. Filled (window_config h m.config p) m.state (is_answered (window h n q) f) f (λ a. n.byte (a + shift h k)) old new) (sym same)
            (subst (λ there. Filled (window_config h m.config p) m.state there f (λ a. n.byte (a + by)) old new) (answered_below h by n q f)
            (filled_below h m.config m.state p (is_answered n (lowered by f)) f n.byte old new good t.buffer));
      }

  -- a frame that is judged below is judged so by the window
  judged_above : (f : Sent) (old new : List ℕ) (r : Answer) (o : Option Refusal) → (o ≡ None → bad_start (window_config h m.config p) f ≡ false) → Judged o m (lowered (shift h m.config) f) old r n new → Judged o (window h m p) f old (placed (place f) r) (window h n q) new
  judged_above f old new r (Some e) good (a, b, c) = (ap (placed (place f)) a, window_equal h h n m refl b q p, c)
  judged_above f old new r None good (free, t) = (free_above (shift h m.config) free, taken_above f free old new r (good refl) t)

  sends_above : (gap : ℕ) (f : Sent) (old new : List ℕ) (r : Answer) → Sends m gap (lowered (shift h m.config) f) old r n new → Sends (window h m p) gap f old (placed (place f) r) (window h n q) new
  sends_above gap f old new r below = record {
    judged =
        judged_above f old new r (refused (window_config h m.config p) m.state gap f) (good_start (window_config h m.config p) m.state gap f)
        (subst (λ o. Judged o m (lowered (shift h m.config) f) old r n new) (sym (refused_below h m.config m.state p gap f)) below.judged);
  }

  -- what is sent below does in the window what the frame does
  pub does_above : (gap : ℕ) (f : Sent) (old new : List ℕ) (answer r : Answer) → r ≡ placed (place f) answer → Sends m gap (lowered (shift h m.config) f) old answer n new → Sends (window h m p) gap f old r (window h n q) new
  does_above gap f old new answer r back below = rw back (sends_above gap f old new answer below)

  reset_above : (r : Result (Unit {0}) (Fault ℕ)) (o : Option Refusal) → ResetJudged o m r n → ResetJudged o (window h m p) r (window h n q)
  reset_above r (Some e) (answer, same) = (answer, window_equal h h n m refl same q p)
  reset_above r None (answer, (free, t)) = (
    answer,
    (
      record { strobe = free.strobe; byte = (window h n q).byte },
      record { same = same_config_above h h m n refl t.same p q; state = t.state; bytes = λ a in_it. refl },
    ),
  )

  pub resets_above : (pulse : ℕ) (r : Result (Unit {0}) (Fault ℕ)) → Resets m pulse r n → Resets (window h m p) pulse r (window h n q)
  resets_above pulse r below = record { judged = reset_above r (reset_refused m.config m.state pulse) below.judged }

-- ---- the frame that goes down, and the answer that comes back

pub read_down : (by : ℕ) (f below : Frame) (b : Burst) (a low n : ℕ) → f ≡ frame.Read b a → below ≡ frame.Read b low → low ≡ moved by a → sent below n ≡ lowered by (sent f n)
read_down by f below b a low n is below_is low_is =
    ap (λ x. sent x n) below_is ∙ ap (λ x. read b x n) low_is ∙ ap (λ x. lowered by (sent x n)) (sym is)

pub write_down : (by : ℕ) (f below : Frame) (b : Burst) (a low n : ℕ) (d k : Bor (List ℕ)) → f ≡ frame.Write b a d k → below ≡ frame.Write b low d k → low ≡ moved by a → sent below n ≡ lowered by (sent f n)
write_down by f below b a low n d k is below_is low_is =
    ap (λ x. sent x n) below_is ∙ ap (λ x. write b x d.now k.now) low_is ∙ ap (λ x. lowered by (sent x n)) (sym is)

pub same_down : (by : ℕ) (f below : Frame) (n : ℕ) → below ≡ f → ((b : _) (a : _) → f ≡ frame.Read b a → ⊥) → ((b : _) (a : _) (d : _) (k : _) → f ≡ frame.Write b a d k → ⊥) → sent below n ≡ lowered by (sent f n)
same_down by (frame.Read b a) below n is no_read no_write = absurd (no_read b a refl)
same_down by (frame.Write b a d k) below n is no_read no_write = absurd (no_write b a d k refl)
same_down by (frame.RegisterRead k) below n is no_read no_write = ap (λ x. sent x n) is
same_down by (frame.RegisterWrite k v) below n is no_read no_write = ap (λ x. sent x n) is
same_down by frame.GlobalReset below n is no_read no_write = ap (λ x. sent x n) is

pub placed_by : (Q : Fault ℕ → Fault ℕ → Type 0) (p : ℕ) (r back : Answer) → ((d e : Fault ℕ) → Q d e → e ≡ fault_at d.refusal p) → MatchResult r (λ x. back ≡ Ok x) (λ d. IsErrAnd back (Q d)) → back ≡ placed p r
placed_by Q p (Ok x) back is told = told
placed_by Q p (Err d) back is told =
    let (e, back_is, q) = err_from_is_err_and back told in back_is ∙ ap (λ x. Err x) (is d e q)

pub sent_below : {X : Type 0} (meaning : X → Meaning) (gives : X → Event → X → Type 0) (h : ℕ) (x y : X) (gap : ℕ) (f below : Sent) (old new : List ℕ) (r back : Answer) → below ≡ lowered (shift h (meaning x).config) f → back ≡ placed (place f) r → gives x (sending gap below old r new) y → Does (meaning x) (sending gap below old r new) (meaning y) → SentBelow meaning gives h x gap f old back y new
sent_below meaning gives h x y gap f below old new r back below_is back_is own does = record {
  answer = r;
  sends = subst (λ g. Happens meaning gives x (sending gap g old r new) y) below_is record { own = own; does = does };
  comes_back = back_is;
}
