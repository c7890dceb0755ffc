-- Only what is on the wire counts. Assumes nothing.
use Rattle.std.proofs.Common.{◌≡◌, ℕ, ◌%◌, ◌≤◌, Bool, true, false, cond, not, ◌||◌, eqb, ltb, leb, List, length, get_or, Some, None, MatchBool, Option, sym, refl, ap, ◌∙◌, subst, ⊎_elim, arith}
use Rattle.std.proofs.lemmas.Bool.{or_parts, or_cases, not-false, leb-true, leb-false, ltb-true, eqb-true, le-leb, cond-true}
use Rattle.std.proofs.lemmas.Bool.Decides.{nat_tests}
use Rattle.std.proofs.lemmas.Option.{cond_some, same_Some}
use Rattle.fault.specs.declared.Refusal.{Refusal}
use Rattle.frame.specs.Bursts.{burst_address}
use Rattle.frame.specs.OpeningBytes.{last_address, opening_bytes, from_opening_bytes, GivesBack}
use Rattle.frame.specs.declared.burst.Block.TheVariants.{Bytes16}
use Rattle.frame.specs.declared.burst.Burst.{Burst}
use Rattle.frame.specs.declared.burst.Burst.TheVariants.{Linear, Wrapped, Hybrid}
use Rattle.frame.specs.declared.command.Command.{Command}
use Rattle.frame.specs.declared.command.Command.TheVariants.{Read, LinearRead, Write, LinearWrite, RegisterRead, RegisterWrite, GlobalReset}
use Rattle.register.specs.Registers.{on_wire, readable, accepts}
use Rattle.chip.specs.Sent.{Sent, read, write, register_read, register_write, global_reset, Answer}
use Rattle.chip.specs.Refused.{bad_start, refused}
use Rattle.chip.specs.Taken.{Fills, written, is_retained, Judged, Sends}
use Rattle.chip.specs.Meaning.{Meaning, Lawful, size, strobe_at}
use Rattle.chip.specs.Wire.{is_linear, command_of_frame, address_of_frame, frame_opening_bytes, FollowingBytes, following_bytes, Decodes, TakenHasOpening, DoesTheSame, SameOnTheWire}
use Rattle.chip.proofs.Tests.{good_start, good_register}

-- ---- opening bytes

cond_none : {A : Type 0} (b : Bool) (x : A) → None ≡ cond b (Some x) None → b ≡ false
cond_none true x e = cc
cond_none false x e = refl

pub decodes : GivesBack → (r : Option (List ℕ)) (c : Command) (a : ℕ) → r ≡ opening_bytes c a → Decodes r c a
decodes back None c a is = leb-false a (last_address c) (cond_none _ _ is)
decodes back (Some bytes) c a is =
    let given = back c a (leb-true a (last_address c) (cond_some _ _ _ (sym is)).0) in
    subst (λ x. from_opening_bytes x ≡ Some (c, a)) (same_Some _ _ (sym given.1 ∙ sym is)) given.2

-- ---- a frame that is taken has opening bytes

carries : (c : Command) (a : ℕ) → a ≤ last_address c → (bytes : List ℕ) × (opening_bytes c a ≡ Some bytes)
carries c a fits = (_, cond-true _ _ _ (le-leb a (last_address c) fits))

-- a start that is taken has 24 bits at most
memory_fits : (m : Meaning) (gap a : ℕ) (f : Sent) → bad_start m.config f ≡ (eqb (a % 2) 1 || leb (size m.config) a) → Lawful m → refused m.config m.state gap f ≡ None → a ≤ 0xFFFFFF
memory_fits m gap a f test law e =
    let start = sym test ∙ good_start m.config m.state gap f e in
    let below = leb-false _ _ (or_parts (eqb (a % 2) 1) _ start).1 in
    omega (arith, m.config.within_16_mib)

readable_fits : (k : ℕ) → not (readable k) ≡ false → k ≤ 0xFF
readable_fits k e = ⊎_elim (λ h. let below = ltb-true k 5 h in omega arith) (λ h. let is = eqb-true k 8 h in omega arith) (or_cases (ltb k 5) _ (not-false _ e))

writable_fits : (k v : ℕ) → not (accepts k v) ≡ false → k ≤ 0xFF
writable_fits k v e = grind (arith, nat_tests)

pub taken_has_opening : TakenHasOpening
taken_has_opening m gap (read Linear a n) law e = carries LinearRead a (memory_fits m gap a (read Linear a n) refl law e)
taken_has_opening m gap (read (Wrapped b) a n) law e = carries Read a (memory_fits m gap a (read (Wrapped b) a n) refl law e)
taken_has_opening m gap (read (Hybrid b) a n) law e = carries Read a (memory_fits m gap a (read (Hybrid b) a n) refl law e)
taken_has_opening m gap (write Linear a d k) law e = carries LinearWrite a (memory_fits m gap a (write Linear a d k) refl law e)
taken_has_opening m gap (write (Wrapped b) a d k) law e = carries Write a (memory_fits m gap a (write (Wrapped b) a d k) refl law e)
taken_has_opening m gap (write (Hybrid b) a d k) law e = carries Write a (memory_fits m gap a (write (Hybrid b) a d k) refl law e)
taken_has_opening m gap (register_read k) law e = carries RegisterRead k (readable_fits k (good_register m.config m.state gap (register_read k) e))
taken_has_opening m gap (register_write k v) law e = carries RegisterWrite k (writable_fits k v (good_register m.config m.state gap (register_write k v) e))
taken_has_opening m gap global_reset law e = carries GlobalReset 0 (omega arith)

-- ---- the burst that a frame names

same_burst : (b c : Burst) → is_linear b ≡ is_linear c → (mr8 : ℕ) → on_wire b mr8 ≡ on_wire c mr8
same_burst Linear Linear e v = refl
same_burst Linear (Wrapped c) e v = cc
same_burst Linear (Hybrid c) e v = cc
same_burst (Wrapped b) Linear e v = cc
same_burst (Wrapped b) (Wrapped c) e v = refl
same_burst (Wrapped b) (Hybrid c) e v = refl
same_burst (Hybrid b) Linear e v = cc
same_burst (Hybrid b) (Wrapped c) e v = refl
same_burst (Hybrid b) (Hybrid c) e v = refl

module _ (b c : Burst) (a : ℕ) (wire : (mr8 : ℕ) → on_wire b mr8 ≡ on_wire c mr8) (m n : Meaning) (old new : List ℕ) (r : Answer) where
  same_fill : (k : ℕ) (there : Bool) → MatchBool there (Fills m.config m.state b a k n.byte old new) (new ≡ old) → MatchBool there (Fills m.config m.state c a k n.byte old new) (new ≡ old)
  same_fill k true full = record {
    long = full.long;
    each = λ i inside. full.each i inside ∙ ap (λ w. n.byte (burst_address m.config.make w a i)) (wire m.state.mr8);
  }
  same_fill k false stays = stays

  judged_read : (k : ℕ) (o : Option Refusal) → Judged o m (read b a k) old r n new → Judged o m (read c a k) old r n new
  judged_read k (Some e) j = j
  judged_read k None (free, t) = (
    free,
    record {
      allowed = t.allowed;
      same = t.same;
      state = t.state;
      bytes = t.bytes;
      answer = t.answer;
      buffer = same_fill k (strobe_at n a) t.buffer;
    },
  )

  judged_write : (d k : List ℕ) (o : Option Refusal) → Judged o m (write b a d k) old r n new → Judged o m (write c a d k) old r n new
  judged_write d k (Some e) j = j
  judged_write d k None (free, t) = (
    free,
    record {
      allowed = t.allowed;
      same = t.same;
      state = t.state;
      bytes = λ x in_it.
          t.bytes x in_it
          ∙ ap (λ w. cond (is_retained m n (write c a d k) x) (written (burst_address m.config.make w a) d k (length d) x (m.byte x)) (free.byte x)) (wire m.state.mr8);
      answer = t.answer;
      buffer = t.buffer;
    },
  )

same_reads : (b c : Burst) (a n : ℕ) → is_linear b ≡ is_linear c → DoesTheSame (read b a n) (read c a n)
same_reads b c a k e m n gap old new r s =
    record { judged = judged_read b c a (same_burst b c e) m n old new r k _ s.judged }

same_writes : (b c : Burst) (a : ℕ) (d m : List ℕ) → is_linear b ≡ is_linear c → DoesTheSame (write b a d m) (write c a d m)
same_writes b c a d k e m n gap old new r s =
    record { judged = judged_write b c a (same_burst b c e) m n old new r d k _ s.judged }

itself : (f : Sent) → DoesTheSame f f
itself f m n gap old new r s = s

-- ---- a frame as it is read off the wire

decoded : Command → ℕ → FollowingBytes → Sent
decoded Read a p = read (Wrapped Bytes16) a p.count
decoded LinearRead a p = read Linear a p.count
decoded Write a p = write (Wrapped Bytes16) a p.bytes p.mask
decoded LinearWrite a p = write Linear a p.bytes p.mask
decoded RegisterRead a p = register_read a
decoded RegisterWrite a p = register_write a (get_or p.bytes 0 0)
decoded GlobalReset a p = global_reset

on_the_wire : Sent → Sent
on_the_wire f = decoded (command_of_frame f) (address_of_frame f) (following_bytes f)

goes_out : (f : Sent) → DoesTheSame f (on_the_wire f)
unfolding on_the_wire decoded
goes_out (read Linear a k) = itself (read Linear a k)
goes_out (read (Wrapped b) a k) = same_reads (Wrapped b) (Wrapped Bytes16) a k refl
goes_out (read (Hybrid b) a k) = same_reads (Hybrid b) (Wrapped Bytes16) a k refl
goes_out (write Linear a d k) = itself (write Linear a d k)
goes_out (write (Wrapped b) a d k) = same_writes (Wrapped b) (Wrapped Bytes16) a d k refl
goes_out (write (Hybrid b) a d k) = same_writes (Hybrid b) (Wrapped Bytes16) a d k refl
goes_out (register_read k) = itself (register_read k)
goes_out (register_write k v) = itself (register_write k v)
goes_out global_reset = itself global_reset

comes_in : (f : Sent) → DoesTheSame (on_the_wire f) f
unfolding on_the_wire decoded
comes_in (read Linear a k) = itself (read Linear a k)
comes_in (read (Wrapped b) a k) = same_reads (Wrapped Bytes16) (Wrapped b) a k refl
comes_in (read (Hybrid b) a k) = same_reads (Wrapped Bytes16) (Hybrid b) a k refl
comes_in (write Linear a d k) = itself (write Linear a d k)
comes_in (write (Wrapped b) a d k) = same_writes (Wrapped Bytes16) (Wrapped b) a d k refl
comes_in (write (Hybrid b) a d k) = same_writes (Wrapped Bytes16) (Hybrid b) a d k refl
comes_in (register_read k) = itself (register_read k)
comes_in (register_write k v) = itself (register_write k v)
comes_in global_reset = itself global_reset

same_bytes : GivesBack → (f g : Sent) (bytes : List ℕ) → frame_opening_bytes f ≡ Some bytes → frame_opening_bytes g ≡ Some bytes → ◌≡◌ {A = Command × ℕ} (command_of_frame f, address_of_frame f) (command_of_frame g, address_of_frame g)
same_bytes back f g bytes p q = same_Some _ _ (sym (decodes back (Some bytes) _ _ (sym p)) ∙ decodes back (Some bytes) _ _ (sym q))

same_frames : GivesBack → (f g : Sent) (bytes : List ℕ) → frame_opening_bytes f ≡ Some bytes → frame_opening_bytes g ≡ Some bytes → following_bytes f ≡ following_bytes g → DoesTheSame f g
unfolding on_the_wire
same_frames back f g bytes p q follows m n gap old new r s =
    let opens = same_bytes back f g bytes p q in
    let wire : on_the_wire f ≡ on_the_wire g = λ i. decoded (opens i).0 (opens i).1 (follows i) in
    comes_in g m n gap old new r (subst (λ x. Sends m gap x old r n new) wire (goes_out f m n gap old new r s))

pub same_on_the_wire : GivesBack → SameOnTheWire
same_on_the_wire back = record { bursts = same_burst; reads = same_reads; writes = same_writes; frames = same_frames back }
