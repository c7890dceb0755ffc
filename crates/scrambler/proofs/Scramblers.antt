-- A scrambler over a chip is a chip. Assumes nothing.
use Rattle.std.proofs.Common.{Bor, ◌≡◌, ℕ, zero, suc, ◌%◌, ◌<◌, ◌≤◌, Bool, true, false, cond, not, ◌&&◌, ◌||◌, eqb, leb, ltb, List, [], ◌∷◌, length, get_or, Some, None, Ok, Err, MatchBool, Option, Result, sym, refl, ap, ◌∙◌, subst, arith}
use lib.Bits.{bit_xor, xor_assoc, xor_self, xor_zero_r}
use Rattle.std.proofs.lemmas.Bool.{and_parts, eqb-true, lt-ltb}
use Rattle.std.proofs.lemmas.Bool.{leb-false, le-leb, lt-leb, cond-true, cond-false}
use Rattle.std.proofs.lemmas.Bool.Decides.{when_true, when_false}
use Rattle.std.proofs.lemmas.List.FromFn.{length-map-range_with_len, get_or-map-range_with_len}
use Rattle.clock.specs.declared.numbers.Clock.{Clock}
use Rattle.clock.specs.declared.range.Latency.{Latency}
use Rattle.fault.specs.Refusals.{fault_at}
use Rattle.fault.specs.declared.Fault.{Fault}
use Rattle.fault.specs.declared.Refusal.{Refusal}
use Rattle.fault.specs.declared.Refusal.TheVariants.{WrongPhase, TooSoon, BadStart, BadCount, TooLong, BadRegister}
use Rattle.frame.specs.Bursts.{burst_address}
use Rattle.frame.specs.Low.{low_clocks}
use Rattle.frame.specs.declared.burst.Burst.{Burst}
use Rattle.frame.specs.declared.low.Transfer.TheVariants as transfer
use Rattle.mask.specs.Masks.{masked, size}
use Rattle.register.specs.Registers.{on_wire}
use Rattle.chip.proofs.Most.{tcem_most, least_latency}
use Rattle.chip.specs.Sent.{sent, send_event, Event, sending, Sent, read, write, register_read, register_write, global_reset, place, Answer, FitsBuffer}
use Rattle.chip.specs.Refused.{takes, least_gap, bad_start, first_refusal, refused}
use Rattle.chip.specs.Free.{FreeByFrame}
use Rattle.chip.specs.Taken.{after, counted, address, written, stored, is_retained, is_answered, answer_by, Filled, Taken, Judged, Sends, Fills}
use Rattle.chip.specs.Meaning.{Meaning, write_latency}
use Rattle.chip.specs.Resets.{reset_refused, ResetJudged, Resets}
use Rattle.chip.specs.declared.bus_frame.Frame.{Frame}
use Rattle.chip.specs.declared.bus_frame.Frame.TheVariants as frame
use Rattle.chip.specs.declared.config.Config.{Config}
use Rattle.chip.specs.declared.bus_frame.Reply.{Reply}
use Rattle.chip.specs.declared.bus_frame.Reply.TheVariants.{Done}
use Rattle.chip.specs.declared.state.State.{State}
use Rattle.chip.specs.Runs.{Does, Happens}
use Rattle.chip.proofs.Chains.{sent_fits}
use Rattle.scrambler.specs.Scramblers.{combined_frame, key_at, scrambler, combined, combined_back, SentCombined}

-- ---- bytes

-- each byte of a burst is combined with the key byte of its own address
record IsCombined (key : List ℕ) (to : ℕ → ℕ) (plain mixed : List ℕ) : Type 0 where
  pub long : length mixed ≡ length plain
  pub each : (i : ℕ) → i < length plain → get_or mixed i 0 ≡ bit_xor (get_or plain i 0) (key_at key (to i))

combined_is : (key : List ℕ) (to : ℕ → ℕ) (plain : List ℕ) → IsCombined key to plain (combined key to plain)
combined_is key to plain =
    let mix : ℕ → ℕ = λ i. bit_xor (get_or plain i 0) (key_at key (to i)) in
    record {
      long = length-map-range_with_len mix 0 (length plain);
      each = λ i inside. get_or-map-range_with_len mix 0 (length plain) i i 0 inside (omega arith);
    }

-- a byte that is combined twice is the byte
pub twice : (x k : ℕ) → bit_xor (bit_xor x k) k ≡ x
twice x k = xor_assoc x k k ∙ ap (bit_xor x) (xor_self k) ∙ xor_zero_r x

either_mixed : (b : Bool) (x y k : ℕ) → bit_xor (cond b x y) k ≡ cond b (bit_xor x k) (bit_xor y k)
either_mixed true x y k = refl
either_mixed false x y k = refl

-- two choices by one test, the first of which agree where it holds
either_same : (b : Bool) (x y z w : ℕ) → (b ≡ true → x ≡ z) → y ≡ w → cond b x y ≡ cond b z w
either_same true x y z w first_refusal second = first_refusal refl
either_same false x y z w first_refusal second = second

-- what a combined write leaves, combined once more, is what the write leaves
module _ (key : List ℕ) (p : ℕ → ℕ) (plain mixed mask : List ℕ) (is : IsCombined key p plain mixed) (a old : ℕ) where
  hit : (i : ℕ) (b : Bool) → i < length plain → (eqb (p i) a && b) ≡ true → bit_xor (get_or mixed i 0) (key_at key a) ≡ get_or plain i 0
  hit i b inside e =
      let same : p i ≡ a = eqb-true (p i) a (and_parts (eqb (p i) a) b e).0 in
      ap (λ x. bit_xor x (key_at key a)) (is.each i inside)
      ∙ ap (λ x. bit_xor (bit_xor (get_or plain i 0) (key_at key x)) (key_at key a)) same
      ∙ twice (get_or plain i 0) (key_at key a)

  written_mixed : (n : ℕ) → n ≤ length plain → bit_xor (written p mixed mask n a old) (key_at key a) ≡ written p plain mask n a (bit_xor old (key_at key a))
  written_mixed zero within = refl
  written_mixed (suc i) within =
      let test = eqb (p i) a && not (masked mask i) in
      either_mixed test (get_or mixed i 0) (written p mixed mask i a old) (key_at key a)
      ∙ either_same test _ _ _ _ (hit i (not (masked mask i)) (omega arith)) (written_mixed i (omega arith))

-- ---- a frame that is taken

-- what is free above
free_mixed : List ℕ → FreeByFrame → FreeByFrame
free_mixed key f = record { strobe = f.strobe; latency = f.latency; byte = λ a. bit_xor (f.byte a) (key_at key a) }

byte_mixed : (h : Bool) (new stays goes other k : ℕ) → new ≡ cond h stays other → bit_xor stays k ≡ goes → bit_xor new k ≡ cond h goes (bit_xor other k)
byte_mixed h new stays goes other k e f =
    ap (λ x. bit_xor x k) e ∙ either_mixed h stays other k ∙ ap (λ x. cond h x (bit_xor other k)) f

-- a frame g below for a frame f above: they store the same bytes, each in its own form, and agree in all else
module _ (key : List ℕ) (m : Meaning) (g f : Sent) where
  record Stands : Type 0 where
    pub leaves : (free : FreeByFrame) → after m.config m.state g free ≡ after m.config m.state f free
    pub stores : (a old : ℕ) → bit_xor (stored m.config m.state g a old) (key_at key a) ≡ stored m.config m.state f a (bit_xor old (key_at key a))
    pub keeps : (n : Meaning) (a : ℕ) → is_retained m n g a ≡ is_retained m n f a
    pub answers : (n : Meaning) → answer_by m.config m.state (is_answered n g) g ≡ answer_by m.config m.state (is_answered n f) f
    pub placed : place g ≡ place f

module _ (key : List ℕ) (m n : Meaning) (g f : Sent) (stands : Stands key m g f) (old mid new : List ℕ) (r : Answer) where
  taken_above : (free : FreeByFrame) → Filled m.config m.state (is_answered n f) f (scrambler key n).byte old new → Taken m g free old r n mid → Taken (scrambler key m) f (free_mixed key free) old r (scrambler key n) new
  unfolding free_mixed
  taken_above free full t = record {
    allowed = record { strobe = t.allowed.strobe; latency = t.allowed.latency };
    same = record { config = t.same.config; refreshes = t.same.refreshes };
    state = t.state ∙ stands.leaves free;
    bytes = λ a in_it.
        byte_mixed _ (n.byte a) _ _ (free.byte a) (key_at key a) (t.bytes a in_it) (stands.stores a (m.byte a))
        ∙ ap (λ h. cond h (stored m.config m.state f a (bit_xor (m.byte a) (key_at key a))) (bit_xor (free.byte a) (key_at key a))) (stands.keeps n a);
    answer = t.answer ∙ stands.answers n;
    buffer = full;
  }

  refused_above : (e : Refusal) → (r ≡ Err (fault_at e (place g))) × (n ≡ m) × (new ≡ old) → (r ≡ Err (fault_at e (place f))) × (scrambler key n ≡ scrambler key m) × (new ≡ old)
  refused_above e (answer, same, buffer) = (answer ∙ ap (λ p. Err (fault_at e p)) stands.placed, ap (scrambler key) same, buffer)

-- ---- frames of registers, and the wake frame

abbrev Straight : Sent → Type 0
Straight (read b a n) = ⊥
Straight (write b a d m) = ⊥
Straight (register_read n) = Unit {0}
Straight (register_write n v) = Unit {0}
Straight global_reset = Unit {0}

stands_straight : (key : List ℕ) (m : Meaning) (f : Sent) → Straight f → Stands key m f f
stands_straight key m (read b a n) is = absurd is
stands_straight key m (write b a d k) is = absurd is
stands_straight key m (register_read n) is = record { leaves = λ _. refl; stores = λ _ _. refl; keeps = λ _ _. refl; answers = λ _. refl; placed = refl }
stands_straight key m (register_write n v) is = record { leaves = λ _. refl; stores = λ _ _. refl; keeps = λ _ _. refl; answers = λ _. refl; placed = refl }
stands_straight key m global_reset is = record { leaves = λ _. refl; stores = λ _ _. refl; keeps = λ _ _. refl; answers = λ _. refl; placed = refl }

straight_filled : (k : Config) (s : State) (there : Bool) (f : Sent) (byte over : ℕ → ℕ) (old new : List ℕ) → Straight f → Filled k s there f byte old new → Filled k s there f over old new
straight_filled k s there (read b a n) byte over old new is full = absurd is
straight_filled k s there (write b a d m) byte over old new is full = absurd is
straight_filled k s there (register_read n) byte over old new is full = full
straight_filled k s there (register_write n v) byte over old new is full = full
straight_filled k s there global_reset byte over old new is full = full

module _ (key : List ℕ) (m n : Meaning) (f : Sent) (is : Straight f) (old new : List ℕ) (r : Answer) where
  straight_judged : (o : Option Refusal) → Judged o m f old r n new → Judged o (scrambler key m) f old r (scrambler key n) new
  straight_judged (Some e) judged = refused_above key m n f f (stands_straight key m f is) old new new r e judged
  straight_judged None (free, t) = (
    free_mixed key free,
    taken_above key m n f f (stands_straight key m f is) old new new r free
        (straight_filled m.config m.state (is_answered n f) f n.byte (scrambler key n).byte old new is t.buffer)
        t,
  )

  sends_straight : (gap : ℕ) → Sends m gap f old r n new → Sends (scrambler key m) gap f old r (scrambler key n) new
  sends_straight gap below = record { judged = straight_judged (refused m.config m.state gap f) below.judged }

-- ---- a read

stands_read : (key : List ℕ) (m : Meaning) (b : Burst) (a n : ℕ) → Stands key m (read b a n) (read b a n)
stands_read key m b a n = record { leaves = λ _. refl; stores = λ _ _. refl; keeps = λ _ _. refl; answers = λ _. refl; placed = refl }

-- the answer to a read tells whether the strobe came
pub strobe_there : (b : Bool) (x y : Reply) (e : Fault ℕ) → Ok x ≡ cond b (Ok y) (Err e) → b ≡ true
strobe_there true x y e is = refl
strobe_there false x y e is = cc

strobe_gone : (b : Bool) (y : Reply) (d e : Fault ℕ) → Err d ≡ cond b (Ok y) (Err e) → b ≡ false
strobe_gone true y d e is = cc
strobe_gone false y d e is = refl

-- what stands where a test holds, and where it does not
when_is_true : (P Q : Type 0) (b : Bool) → b ≡ true → P → MatchBool b P Q
when_is_true P Q b e = subst (λ t. MatchBool t P Q) (sym e)

when_is_false : (P Q : Type 0) (b : Bool) → b ≡ false → Q → MatchBool b P Q
when_is_false P Q b e = subst (λ t. MatchBool t P Q) (sym e)

-- what a read fills, combined by the addresses of its burst
filled_mixed : (key : List ℕ) (k : Config) (s : State) (b : Burst) (a : ℕ) (byte : ℕ → ℕ) (old mid new : List ℕ) → IsCombined key (address k s b a) mid new → Fills k s b a (length old) byte old mid → Fills k s b a (length old) (λ x. bit_xor (byte x) (key_at key x)) old new
filled_mixed key k s b a byte old mid new is full = record {
  long = is.long ∙ full.long;
  each = λ i inside.
      let long = full.long in
      is.each i (omega arith) ∙ ap (λ x. bit_xor x (key_at key (address k s b a i))) (full.each i inside);
}

module _ (key : List ℕ) (m n : Meaning) (b : Burst) (a : ℕ) (old mid : List ℕ) where
  -- the burst is combined after the read, which leaves make and MR8
  read_answered : (new : List ℕ) (o : Option Refusal) (x : Reply) → IsCombined key (address n.config n.state b a) mid new → Judged o m (read b a (length old)) old (Ok x) n mid → Judged o (scrambler key m) (read b a (length old)) old (Ok x) (scrambler key n) new
  read_answered new (Some e) x is (answer, _, _) = cc
  read_answered new None x is (free, t) =
      let there = strobe_there n.state.strobe x Done _ t.answer in
      let before = subst (λ (p : ℕ → ℕ). IsCombined key p mid new) (λ j i. burst_address (t.same.config j).make (on_wire b (t.state j).mr8) a i) is in (
        free_mixed key free,
        taken_above key m n (read b a (length old)) (read b a (length old)) (stands_read key m b a (length old)) old mid new (Ok x) free
            (when_is_true _ _ n.state.strobe there (filled_mixed key m.config m.state b a n.byte old mid new before (when_true _ _ there t.buffer)))
            t,
      )

  read_faulted : (o : Option Refusal) (d : Fault ℕ) → Judged o m (read b a (length old)) old (Err d) n mid → Judged o (scrambler key m) (read b a (length old)) old (Err d) (scrambler key n) mid
  read_faulted (Some e) d judged = refused_above key m n _ _ (stands_read key m b a (length old)) old mid mid (Err d) e judged
  read_faulted None d (free, t) =
      let gone = strobe_gone n.state.strobe Done d _ t.answer in (
        free_mixed key free,
        taken_above key m n (read b a (length old)) (read b a (length old)) (stands_read key m b a (length old)) old mid mid (Err d) free
            (when_is_false _ _ n.state.strobe gone (when_false _ _ gone t.buffer))
            t,
      )

read_whole : (key : List ℕ) (m n : Meaning) (gap : ℕ) (b : Burst) (a : ℕ) (old mid : List ℕ) (r : Answer) → Sends m gap (read b a (length old)) old r n mid → Sends (scrambler key m) gap (read b a (length old)) old r (scrambler key n) (combined_back key n (read b a (length old)) r mid)
read_whole key m n gap b a old mid (Ok x) below = record {
  judged =
      read_answered key m n b a old mid (combined key (address n.config n.state b a) mid) (refused m.config m.state gap (read b a (length old))) x
      (combined_is key (address n.config n.state b a) mid) below.judged;
}
read_whole key m n gap b a old mid (Err d) below = record {
  judged = read_faulted key m n b a old mid (refused m.config m.state gap (read b a (length old))) d below.judged;
}

-- ---- a write

-- of the data, only the length decides whether it is refused
refused_by_length : (k : Config) (s : State) (gap : ℕ) (b : Burst) (a : ℕ) (plain mixed mask : List ℕ) → length mixed ≡ length plain → refused k s gap (write b a mixed mask) ≡ refused k s gap (write b a plain mask)
refused_by_length k s gap b a plain mixed mask long =
    ap (λ n. first_refusal ((not (takes s.phase false), WrongPhase) ∷ (ltb gap (least_gap k s), TooSoon) ∷ (bad_start k (write b a plain mask), BadStart) ∷ ((eqb n 0 || (eqb (n % 2) 1 || not (eqb (length mask) (size n)))), BadCount) ∷ (ltb k.clock.tcem (low_clocks (transfer.Write (write_latency s) n)), TooLong) ∷ (false, BadRegister) ∷ [])) long

module _ (key : List ℕ) (m : Meaning) (b : Burst) (a : ℕ) (plain mixed mask : List ℕ) (is : IsCombined key (address m.config m.state b a) plain mixed) where
  stands_write : Stands key m (write b a mixed mask) (write b a plain mask)
  stands_write = record {
    leaves = λ free. ap (λ n. counted m.state (low_clocks (transfer.Write (write_latency m.state) n)) free.strobe) is.long;
    stores = λ x old.
        ap (λ n. bit_xor (written (address m.config m.state b a) mixed mask n x old) (key_at key x)) is.long
        ∙ written_mixed key (address m.config m.state b a) plain mixed mask is x old (length plain) (omega arith);
    keeps = λ _ _. refl;
    answers = λ _. refl;
    placed = refl;
  }

  write_judged : (n : Meaning) (old new : List ℕ) (r : Answer) (o : Option Refusal) → Judged o m (write b a mixed mask) old r n new → Judged o (scrambler key m) (write b a plain mask) old r (scrambler key n) new
  write_judged n old new r (Some e) judged = refused_above key m n _ _ stands_write old new new r e judged
  write_judged n old new r None (free, t) =
      (free_mixed key free, taken_above key m n _ _ stands_write old new new r free t.buffer t)

  write_sends : (n : Meaning) (gap : ℕ) (old new : List ℕ) (r : Answer) → Sends m gap (write b a mixed mask) old r n new → Sends (scrambler key m) gap (write b a plain mask) old r (scrambler key n) new
  write_sends n gap old new r below = record {
    judged =
        write_judged n old new r (refused m.config m.state gap (write b a plain mask))
        (subst (λ o. Judged o m (write b a mixed mask) old r n new) (refused_by_length m.config m.state gap b a plain mixed mask is.long) below.judged);
  }

-- ---- a write that is too long for any chip

low_too_long : (k : Clock) (l : Latency) (n : ℕ) → 1052 < n → ltb k.tcem (low_clocks (transfer.Write l n)) ≡ true
low_too_long k l n h = lt-ltb _ _ (omega (arith, tcem_most k, least_latency l))

-- where a test holds, there is a first that does
some_first : (t : Bool) (r : Refusal) (rest : List (Bool × Refusal)) → (e : Refusal) × (first_refusal rest ≡ Some e) → (e : Refusal) × (first_refusal ((t, r) ∷ rest) ≡ Some e)
unfolding first_refusal
some_first true r rest some = (r, refl)
some_first false r rest some = some

here_first : (t : Bool) (r : Refusal) (rest : List (Bool × Refusal)) → t ≡ true → (e : Refusal) × (first_refusal ((t, r) ∷ rest) ≡ Some e)
unfolding first_refusal
here_first true r rest is = (r, refl)
here_first false r rest is = cc

-- whatever the tests before it say
long_refused : (k : Config) (s : State) (gap : ℕ) (b : Burst) (a : ℕ) (d mask : List ℕ) → 1052 < length d → (e : Refusal) × (refused k s gap (write b a d mask) ≡ Some e)
long_refused k s gap b a d mask h =
    some_first _ _ _ (some_first _ _ _ (some_first _ _ _ (some_first _ _ _ (here_first _ _ _ (low_too_long k.clock (write_latency s) (length d) h)))))

sends_long : (key : List ℕ) (m n : Meaning) (gap : ℕ) (b : Burst) (a : ℕ) (d mask old new : List ℕ) (r : Answer) → 1052 < length d → Sends m gap (write b a d mask) old r n new → Sends (scrambler key m) gap (write b a d mask) old r (scrambler key n) new
sends_long key m n gap b a d mask old new r h below =
    let (e, is) = long_refused m.config m.state gap b a d mask h in
    let (answer, same, buffer) = subst (λ o. Judged o m (write b a d mask) old r n new) is below.judged in
    record {
      judged =
          subst (λ o. Judged o (scrambler key m) (write b a d mask) old r (scrambler key n) new) (sym is) (answer, ap (scrambler key) same, buffer);
    }

-- ---- any frame

-- data that fit the scratch go down combined, longer ones as they are
write_cases : (key : List ℕ) (m n : Meaning) (gap : ℕ) (b : Burst) (a : ℕ) (d mask old new : List ℕ) (r : Answer) (fits : Bool) → leb (length d) 1052 ≡ fits → Sends m gap (write b a (cond fits (combined key (address m.config m.state b a) d) d) mask) old r n new → Sends (scrambler key m) gap (write b a d mask) old r (scrambler key n) new
write_cases key m n gap b a d mask old new r true e below =
    write_sends key m b a d (combined key (address m.config m.state b a) d) mask (combined_is key (address m.config m.state b a) d) n gap old new r below
write_cases key m n gap b a d mask old new r false e below =
    sends_long key m n gap b a d mask old new r (leb-false (length d) 1052 e) below

read_cases : (key : List ℕ) (m n : Meaning) (gap : ℕ) (b : Burst) (a c : ℕ) (old mid : List ℕ) (r : Answer) → c ≡ length old → Sends m gap (read b a c) old r n mid → Sends (scrambler key m) gap (read b a c) old r (scrambler key n) (combined_back key n (read b a c) r mid)
read_cases key m n gap b a c old mid r fits =
    subst (λ (k : ℕ). Sends m gap (read b a k) old r n mid → Sends (scrambler key m) gap (read b a k) old r (scrambler key n) (combined_back key n (read b a k) r mid)) (sym fits)
    (read_whole key m n gap b a old mid r)

does_above : (key : List ℕ) (m n : Meaning) (gap : ℕ) (f : Sent) (old buffer new : List ℕ) (r : Answer) → FitsBuffer f old → Sends m gap (combined_frame key m f) old r n buffer → new ≡ combined_back key n f r buffer → Sends (scrambler key m) gap f old r (scrambler key n) new
does_above key m n gap (read b a c) old buffer new r fits sends back =
    rw back (read_cases key m n gap b a c old buffer r fits sends)
does_above key m n gap (write b a d k) old buffer new r fits sends back =
    rw back (write_cases key m n gap b a d k old buffer r _ refl sends)
does_above key m n gap (register_read k) old buffer new r fits sends back =
    rw back (sends_straight key m n (register_read k) tt old buffer r gap sends)
does_above key m n gap (register_write k v) old buffer new r fits sends back =
    rw back (sends_straight key m n (register_write k v) tt old buffer r gap sends)
does_above key m n gap global_reset old buffer new r fits sends back =
    rw back (sends_straight key m n global_reset tt old buffer r gap sends)

-- ---- a reset

reset_above : (key : List ℕ) (m n : Meaning) (r : Result (Unit {0}) (Fault ℕ)) (o : Option Refusal) → ResetJudged o m r n → ResetJudged o (scrambler key m) r (scrambler key n)
reset_above key m n r (Some e) (answer, same) = (answer, ap (scrambler key) same)
reset_above key m n r None (answer, (free, t)) = (
  answer,
  (
    record { strobe = free.strobe; byte = (scrambler key n).byte },
    record { same = record { config = t.same.config; refreshes = t.same.refreshes }; state = t.state; bytes = λ a in_it. refl },
  ),
)

pub resets_above : (key : List ℕ) (pulse : ℕ) (m n : Meaning) (r : Result (Unit {0}) (Fault ℕ)) → Resets m pulse r n → Resets (scrambler key m) pulse r (scrambler key n)
resets_above key pulse m n r below = record { judged = reset_above key m n r (reset_refused m.config m.state pulse) below.judged }

-- ---- the frame that goes down, and what comes back

-- what a frame does above, where it was sent below combined
pub does_as_sent : {X : Type 0} (meaning : X → Meaning) (gives : X → Event → X → Type 0) (key : List ℕ) (x y : X) (gap : ℕ) (f : Frame) (old new : List ℕ) (r : Answer) → SentCombined meaning gives key x gap (sent f (length old)) old r y new → Does (scrambler key (meaning x)) (send_event gap f old r new) (scrambler key (meaning y))
does_as_sent meaning gives key x y gap f old new r below =
    does_above key (meaning x) (meaning y) gap (sent f (length old)) old below.buffer new r (sent_fits f old) below.sends.does below.comes_back

module _ {X : Type 0} (meaning : X → Meaning) (gives : X → Event → X → Type 0) (key : List ℕ) (x y : X) (gap : ℕ) (f : Frame) (old : List ℕ) where
  abbrev Through : Frame → Answer → List ℕ → Type 0
  Through g r new = SentCombined meaning gives key x gap (sent g (length old)) old r y new

  pub answered_read : (b : Burst) (a : ℕ) → f ≡ frame.Read b a → (reply : Reply) (mid new : List ℕ) → new ≡ combined key (address (meaning y).config (meaning y).state b a) mid → Happens meaning gives x (send_event gap f old (Ok reply) mid) y → Through f (Ok reply) new
  answered_read b a is reply mid new back =
      subst (λ g. Happens meaning gives x (send_event gap g old (Ok reply) mid) y → Through g (Ok reply) new) (sym is) (λ given. record { buffer = mid; sends = given; comes_back = back })

  pub faulted_read : (b : Burst) (a : ℕ) → f ≡ frame.Read b a → (r : Answer) (d : Fault ℕ) (mid : List ℕ) → r ≡ Err d → Happens meaning gives x (send_event gap f old (Err d) mid) y → Through f r mid
  faulted_read b a is r d mid back =
      subst (λ g. Happens meaning gives x (send_event gap g old (Err d) mid) y → Through g r mid) (sym is)
      (λ given. rw back record { buffer = mid; sends = given; comes_back = refl })

  -- the data as they go down
  data_down : (b : Burst) (a : ℕ) (d k sent_data : List ℕ) (r : Answer) (new : List ℕ) → sent_data ≡ cond (leb (length d) 1052) (combined key (address (meaning x).config (meaning x).state b a) d) d → Happens meaning gives x (sending gap (write b a sent_data k) old r new) y → SentCombined meaning gives key x gap (write b a d k) old r y new
  data_down b a d k sent_data r new is given = record {
    buffer = new;
    sends = subst (λ e. Happens meaning gives x (sending gap (write b a e k) old r new) y) is given;
    comes_back = refl;
  }

  pub combined_write : (b : Burst) (a : ℕ) (d k : Bor (List ℕ)) → f ≡ frame.Write b a d k → (copy mixed : List ℕ) → length d.now ≤ 1052 → copy ≡ d.now → mixed ≡ combined key (address (meaning x).config (meaning x).state b a) copy → (r : Answer) (new : List ℕ) → Happens meaning gives x (sending gap (write b a mixed k.now) old r new) y → Through f r new
  combined_write b a d k is copy mixed short copied mixes r new given =
      let to = address (meaning x).config (meaning x).state b a in
      let down = mixes ∙ ap (combined key to) copied ∙ sym (cond-true _ (combined key to d.now) d.now (le-leb (length d.now) 1052 short)) in
      subst (λ g. Through g r new) (sym is) (data_down b a d.now k.now mixed r new down given)

  pub long_write : (b : Burst) (a : ℕ) (d k : Bor (List ℕ)) → f ≡ frame.Write b a d k → 1052 < length d.now → (r : Answer) (new : List ℕ) → Happens meaning gives x (send_event gap f old r new) y → Through f r new
  long_write b a d k is long r new =
      let to = address (meaning x).config (meaning x).state b a in
      let down = sym (cond-false _ (combined key to d.now) d.now (lt-leb (length d.now) 1052 long)) in
      subst (λ g. Happens meaning gives x (send_event gap g old r new) y → Through g r new) (sym is) (data_down b a d.now k.now d.now r new down)

  pub as_it_is : (g : Frame) → ((b : _) (a : _) → g ≡ frame.Read b a → ⊥) → ((b : _) (a : _) (d : _) (k : _) → g ≡ frame.Write b a d k → ⊥) → (r : Answer) (new : List ℕ) → Happens meaning gives x (send_event gap g old r new) y → Through g r new
  as_it_is (frame.Read b a) no_read no_write r new given = absurd (no_read b a refl)
  as_it_is (frame.Write b a d k) no_read no_write r new given = absurd (no_write b a d k refl)
  as_it_is (frame.RegisterRead k) no_read no_write r new given = record { buffer = new; sends = given; comes_back = refl }
  as_it_is (frame.RegisterWrite k v) no_read no_write r new given = record { buffer = new; sends = given; comes_back = refl }
  as_it_is frame.GlobalReset no_read no_write r new given = record { buffer = new; sends = given; comes_back = refl }
