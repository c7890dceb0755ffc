-- What each request that is taken does: it keeps the agreement of scoreboard and chip, and brings bytes that are known.
use Rattle.std.proofs.Common.{◌≡◌, ℕ, ◌+◌, ◌-◌, ◌%◌, ◌<◌, ◌≤◌, Bool, true, false, if◌then◌else◌, not, List, length, drop, Some, None, sym, refl, ap, ◌∙◌, subst, arith}
use Rattle.std.specs.List.{flat_map}
use Rattle.std.specs.Prelude.{slice_index, nat_le, nat_lt}
use Rattle.std.proofs.lemmas.Bool.{leb-true, ltb-true, ltb-false, not-false, and_parts}
use Rattle.std.proofs.lemmas.Option.{same_Some}
use Rattle.std.proofs.lemmas.List.{get_or-drop, length-drop}
use Rattle.clock.specs.declared.range.Latency.{Latency}
use Rattle.chip.specs.Meaning.{Meaning, size, refreshed, strobe_at, coverage as coverage_in}
use Rattle.chip.specs.Sent.{Answer, register_read, register_write}
use Rattle.chip.specs.declared.config.Config.{Config}
use Rattle.chip.proofs.Tests.{none_first}
use Rattle.frame.specs.Pages.{page}
use Rattle.mask.specs.Masks.{masked}
use Rattle.register.specs.Codes.{coverage_of}
use Rattle.register.specs.Registers.{mr4, mr4_value}
use Rattle.register.specs.declared.fields.Coverage.{Coverage}
use Rattle.register.proofs.Bits.{writes_mr4}
use Rattle.split.specs.Splits.{fits, longest_first, rounded_from, rounded_to, rounded_ordered}
use Rattle.split.specs.declared.direction.Direction.{Direction}
use Rattle.split.specs.declared.direction.Direction.TheVariants.{Read, Write}
use Rattle.split.proofs.Longest.{takes_longest, lawful}
use Rattle.port.specs.Acts.{Act, any_lost}
use Rattle.port.specs.Answers.{bytes_in, request_bytes, buffer_with, answer_of}
use Rattle.port.specs.Plans.{is_inside, plan}
use Rattle.port.specs.Requests.{Request, read, write, fill, latency_type, coverage, register, reset, refusal, FitsRequest}
use Rattle.port.specs.Tests.{each_from}
use Rattle.runs.specs.Histories.{bytes_read}
use Rattle.runs.specs.Scoreboards.{Scoreboard, board_if_taken, address_read}
use Rattle.runs.proofs.Agreements.{Holds, Agrees, blank_agrees, holds_own, over_frame, quiet_register_read, quiet_set_0, alone_still}
use Rattle.runs.proofs.Buffers.{buffer_known}
use Rattle.runs.proofs.Courses.{Effect, Course, alone}
use Rattle.runs.proofs.FillBytes.{fill_known}
use Rattle.runs.proofs.Places.{AreInPages}
use Rattle.runs.proofs.ReadBytes.{AreKnown, BringRange, range_known}
use Rattle.port.proofs.Accepted.{Line, line_of_fill}
use Rattle.port.proofs.Pieces.{most_of, some_most}
use Rattle.port.proofs.Ranges.{each_from-at}
use Rattle.runs.proofs.WriteBytes.{is_written, strobe_before, held_through, set_through}

-- ---- pieces

-- the lengths of the pieces of a request in a direction
abbrev lengths_of : Direction → Config → ℕ → ℕ → List ℕ
lengths_of d k a n = longest_first (page k.make) (most_of d k) (rounded_from a) (rounded_to a n)

-- they are in pages, one behind the other, from where rounding begins the request to where it ends it
in_pages : (d : Direction) (k : Config) (a n : ℕ)
    → AreInPages k (most_of d k) (rounded_from a) (rounded_to a n) (lengths_of d k a n)
in_pages d k a n =
    let rule = takes_longest k.make (most_of d k) (some_most d k) (omega arith) in
    lawful rule (rounded_from a) (rounded_to a n) (omega arith) (omega arith) (rounded_ordered a n)

-- ---- reads

-- the bytes that came are known, and where no strobe was lost they are at least so many
record CameKnown (board : Scoreboard) (q : Request) (count : ℕ) (acts : List Act) : Type 0 where
  known : AreKnown board (address_read q) (request_bytes q acts)
  enough : any_lost acts ≡ false → count ≤ length (request_bytes q acts)

-- bytes without the first k
known_behind : (board : Scoreboard) (s a k : ℕ) (bytes : List ℕ) → s + k ≡ a → AreKnown board (λ i. s + i) bytes
    → AreKnown board (λ i. a + i) (drop k bytes)
known_behind board s a k bytes start known = record {
  each = λ i b h is.
      let there : s + (k + i) ≡ a + i = omega arith in
      get_or-drop k bytes i 0 ∙ known.each (k + i) b (omega (arith, length-drop k bytes)) (ap board there ∙ is);
}

-- what the pieces of a read bring, from where rounding begins it
read_range : (board : Scoreboard) (m o : Meaning) (a n : ℕ) (acts : List Act) → Agrees board m
    → Course m (plan m.config m.state (read a n)) acts o → BringRange board (rounded_from a) (rounded_to a n) acts o
read_range board m o a n acts =
    let k = m.config in
    range_known board m o (most_of Read k) (rounded_from a) (rounded_to a n) (lengths_of Read k a n) acts
    (in_pages Read k a n)

-- the bytes from the start of the read on
read_came : (board : Scoreboard) (m o : Meaning) (a n : ℕ) (acts : List Act) → Agrees board m
    → Course m (plan m.config m.state (read a n)) acts o → CameKnown board (read a n) n acts
read_came board m o a n acts agrees course =
    let bring = read_range board m o a n acts agrees course in
    let all = flat_map bytes_in acts in
    record {
      known = known_behind board (rounded_from a) a (a % 2) all (omega arith) bring.known;
      enough = λ found. omega (arith, length-drop (a % 2) all, bring.long found);
    }

-- ---- fills

-- the bytes of its line
fill_came : (board : Scoreboard) (m o : Meaning) (a n : ℕ) (acts : List Act) → Line m a n → Agrees board m
    → Course m (plan m.config m.state (fill a n)) acts o → CameKnown board (fill a n) n acts
fill_came board m o a n acts good agrees course =
    let bring = fill_known board a n good.line m o acts agrees course in
    let all : flat_map bytes_in acts ≡ request_bytes (fill a n) acts =
    ap (λ k. drop k (flat_map bytes_in acts)) (sym good.even) in
    record {
      known = subst (AreKnown board (address_read (fill a n))) all bring.known;
      enough = λ found. omega (arith, ap length all, bring.long found);
    }

-- ---- writes

-- an address that a write writes lies in the range of the request
record IsInRange (a : ℕ) (d : List ℕ) (x : ℕ) : Type 0 where
  least : a ≤ x
  most : x < a + length d

-- by the test of the addresses that a write writes
in_range : (a : ℕ) (d mask : List ℕ) (x : ℕ) → is_written a d mask x ≡ true → IsInRange a d x
in_range a d mask x is =
    let inside = (and_parts (is_inside a (length d) x) (not (masked mask (x - a))) is).0 in
    let parts = and_parts (nat_le a x) (nat_lt x (a + length d)) inside in
    record { least = leb-true a x parts.0; most = ltb-true x (a + length d) parts.1 }

-- what a write that is taken writes is there and refreshed
record IsGoodWrite (m : Meaning) (a : ℕ) (d mask : List ℕ) : Type 0 where
  there : (x : ℕ) → is_written a d mask x ≡ true → x < size m.config
  refreshed : (x : ℕ) → is_written a d mask x ≡ true → refreshed m x ≡ true

-- by the tests of a write
good_write : (m : Meaning) (lost : Bool) (a : ℕ) (d mask : List ℕ) → refusal m lost (write a d mask) ≡ None
    → IsGoodWrite m a d mask
good_write m lost a d mask none =
    let past = (none_first _ _ _ (none_first lost _ _ none).1).1 in
    let kept = (none_first _ _ _ (none_first _ _ _ past).1).1 in
    let inside = ltb-false (size m.config) (a + length d) (none_first _ _ _ past).0 in
    let each = not-false (each_from (refreshed m) a (length d)) (none_first _ _ _ kept).0 in
    record {
      there = λ x is. omega (arith, (in_range a d mask x is).most);
      refreshed = λ x is.
          let within = in_range a d mask x is in
          each_from-at (refreshed m) a (length d) x each within.least within.most;
    }

-- after a write, its unmasked bytes are entered
write_agrees : (board : Scoreboard) (refreshes : Coverage → ℕ → Bool) (m o : Meaning) (a : ℕ) (d mask : List ℕ)
    (acts : List Act) → IsGoodWrite m a d mask → Agrees board m
    → Course m (plan m.config m.state (write a d mask)) acts o → Agrees (board_if_taken refreshes (write a d mask) board) o
write_agrees board refreshes m o a d mask acts good agrees course =
    record { holds = λ x b strobe is. by_test x b strobe (is_written a d mask x) refl is }
  where
    by_test : (x b : ℕ) → strobe_at o x ≡ true → (test : Bool) → is_written a d mask x ≡ test
        → (if test then Some (slice_index d (x - a)) else board x) ≡ Some b → Holds o x b
    by_test x b strobe true so is =
        let within = in_range a d mask x so in
        let own = holds_own m x (good.there x so) (good.refreshed x so) in
        let to = rounded_to a (length d) in
        subst (Holds o x) (same_Some (slice_index d (x - a)) b is)
        (set_through a d mask m o (most_of Write m.config) (rounded_from a) to
        (lengths_of Write m.config a (length d)) acts (in_pages Write m.config a (length d)) course x (m.byte x) so
        (omega (arith, within.least)) (omega (arith, within.most)) strobe own)
    by_test x b strobe false so is =
        let lengths = lengths_of Write m.config a (length d) in
        let before = strobe_before a d mask m o (rounded_from a) lengths acts course x strobe in
        held_through a d mask m o (most_of Write m.config) (rounded_from a) (rounded_to a (length d)) lengths acts
        (in_pages Write m.config a (length d)) course x b (λ h. so) strobe (agrees.holds x b before is)

-- ---- coverages

-- once MR4 holds the value of a coverage, this is what is refreshed
refreshed_after : {m o : Meaning} {act : Act} (wl : Latency) (c : Coverage)
    → Effect m (register_write 4 (mr4_value wl c)) act o → (x : ℕ) → refreshed o x ≡ m.refreshes c x
refreshed_after {m} {o} wl c does x =
    let means = (writes_mr4 wl c (mr4_value wl c) refl).means in
    let is : coverage_in o.state ≡ c = ap (λ w. (mr4 w).coverage) does.mr4 ∙ ap (λ r. r.coverage) means in
    λ i. does.same.refreshes i (is i) x

-- after a coverage, all that it does not refresh is blank
coverage_agrees : (board : Scoreboard) (m o : Meaning) (v : ℕ) (acts : List Act) → Agrees board m
    → Course m (plan m.config m.state (coverage v)) acts o → Agrees (board_if_taken m.refreshes (coverage v) board) o
coverage_agrees board m o v acts agrees course =
    record { holds = λ x b strobe is. by_test x b strobe (m.refreshes (coverage_of v) x) refl is }
  where
    by_test : (x b : ℕ) → strobe_at o x ≡ true → (test : Bool) → m.refreshes (coverage_of v) x ≡ test
        → (if test then board x else None) ≡ Some b → Holds o x b
    by_test x b strobe true so is =
        let does = (alone course).does in
        let kept = refreshed_after m.config.clock.wl (coverage_of v) does x ∙ so in
        over_frame does (agrees.holds x b (does.strobe x strobe) is) strobe kept
    by_test x b strobe false so is = cc

-- ---- each request

-- a scoreboard that agrees with the chip before a request agrees with it after it, once the request is entered
pub taken_agrees : (board : Scoreboard) (m o : Meaning) (q : Request) (acts : List Act) (lost : Bool)
    → refusal m lost q ≡ None → (lost ≡ false → Agrees board m) → Course m (plan m.config m.state q) acts o
    → Agrees (board_if_taken m.refreshes q board) o
taken_agrees board m o (read a n) acts lost none agrees course =
    (read_range board m o a n acts (agrees (none_first lost _ _ none).0) course).agrees
taken_agrees board m o (write a d mask) acts lost none agrees course =
    write_agrees board m.refreshes m o a d mask acts (good_write m lost a d mask none)
    (agrees (none_first lost _ _ none).0) course
taken_agrees board m o (fill a n) acts lost none agrees course =
    let line = (line_of_fill m lost a n none).line in
    (fill_known board a n line m o acts (agrees (none_first lost _ _ none).0) course).agrees
taken_agrees board m o (latency_type v) acts lost none agrees course =
    alone_still (register_write 0 _) (quiet_set_0 _) (agrees (none_first lost _ _ none).0) course
taken_agrees board m o (coverage v) acts lost none agrees course =
    coverage_agrees board m o v acts (agrees (none_first lost _ _ none).0) course
taken_agrees board m o (register r) acts lost none agrees course =
    alone_still (register_read r) (quiet_register_read r) (agrees (none_first lost _ _ none).0) course
taken_agrees board m o reset acts lost none agrees course = blank_agrees o

-- the bytes that a request reads are those of a scoreboard that agrees with the chip before it
pub taken_reads : (board : Scoreboard) (m o : Meaning) (q : Request) (acts : List Act) (lost : Bool) (before : List ℕ)
    (answer : Answer) (after : List ℕ) → refusal m lost q ≡ None → (lost ≡ false → Agrees board m)
    → Course m (plan m.config m.state q) acts o → FitsRequest q before → answer ≡ answer_of before q acts
    → after ≡ buffer_with before (request_bytes q acts) → (i b : ℕ) → i < bytes_read q answer → board (address_read q i) ≡ Some b
    → slice_index after i ≡ b
taken_reads board m o (read a n) acts lost before answer after none agrees course fits is filled =
    let comes = read_came board m o a n acts (agrees (none_first lost _ _ none).0) course in
    buffer_known board (address_read (read a n)) (read a n) acts before answer after n fits is filled comes.known
    comes.enough
taken_reads board m o (fill a n) acts lost before answer after none agrees course fits is filled =
    let good = line_of_fill m lost a n none in
    let comes = fill_came board m o a n acts good (agrees (none_first lost _ _ none).0) course in
    buffer_known board (address_read (fill a n)) (fill a n) acts before answer after n fits is filled comes.known
    comes.enough
taken_reads board m o (write a d mask) acts lost before answer after none agrees course fits is filled =
    λ i b h known. absurd (omega arith)
taken_reads board m o (latency_type v) acts lost before answer after none agrees course fits is filled =
    λ i b h known. absurd (omega arith)
taken_reads board m o (coverage v) acts lost before answer after none agrees course fits is filled =
    λ i b h known. absurd (omega arith)
taken_reads board m o (register r) acts lost before answer after none agrees course fits is filled =
    λ i b h known. absurd (omega arith)
taken_reads board m o reset acts lost before answer after none agrees course fits is filled =
    λ i b h known. absurd (omega arith)
