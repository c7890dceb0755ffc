-- The bytes that reads bring are those that the scoreboard has.
use Rattle.std.proofs.Common.{◌≡◌, ℕ, ◌+◌, ◌-◌, ◌<◌, ◌≤◌, Bool, true, false, not, List, [], ◌∷◌, ◌++◌, length, map, Some, sym, refl, ap, ◌∙◌, subst, arith, inl, inr}
use Rattle.std.specs.List.{flat_map}
use Rattle.std.specs.Prelude.{slice_index}
use Rattle.std.proofs.lemmas.List.{length-append, get_or-append_right, get_or_append_left}
use Rattle.std.proofs.lemmas.Bool.{cases_lt, or_parts}
use Rattle.chip.specs.Meaning.{Meaning, strobe_at}
use Rattle.chip.specs.Sent.{read}
use Rattle.chip.specs.Taken.{address}
use Rattle.frame.specs.Pages.{page}
use Rattle.frame.specs.declared.burst.Burst.{Burst}
use Rattle.frame.specs.declared.burst.Burst.TheVariants.{Linear}
use Rattle.split.specs.Splits.{pieces_from}
use Rattle.port.specs.Acts.{Act, is_lost, any_lost}
use Rattle.port.specs.Answers.{bytes_in}
use Rattle.port.specs.Plans.{read_piece}
use Rattle.runs.specs.Scoreboards.{Scoreboard}
use Rattle.runs.proofs.Agreements.{Agrees, agrees_still, quiet_read}
use Rattle.runs.proofs.Courses.{Effect, Brings, Course, ended, answered, unanswered}
use Rattle.runs.proofs.Places.{wrapped_in_page, IsInPage, AreInPages, piece_in_page}

-- each of these bytes is the one that the scoreboard has at its place, if it has one
pub record AreKnown (board : Scoreboard) (place : ℕ → ℕ) (bytes : List ℕ) : Type 0 where
  pub each : (i b : ℕ) → i < length bytes → board (place i) ≡ Some b → slice_index bytes i ≡ b

-- no bytes
none_known : (board : Scoreboard) (place : ℕ → ℕ) (bytes : List ℕ) → bytes ≡ [] → AreKnown board place bytes
none_known board place bytes none = record { each = λ i b h is. absurd (omega (arith, ap length none)) }

-- bytes, and others behind them
both_known : (board : Scoreboard) (s t : ℕ) (xs ys : List ℕ) → s + length xs ≡ t → AreKnown board (λ i. s + i) xs
    → AreKnown board (λ i. t + i) ys → AreKnown board (λ i. s + i) (xs ++ ys)
both_known board s t xs ys end first second = record {
  each = λ i b h is. elim (cases_lt i (length xs)) [
    | inl low ↦ get_or_append_left xs ys 0 i low ∙ first.each i b low is
    | inr high ↦
        let there : t + (i - length xs) ≡ s + i = omega arith in
        get_or-append_right xs ys (length xs) i 0 refl high
        ∙ second.each (i - length xs) b (omega (arith, length-append xs ys)) (ap board there ∙ is)
  ];
}

-- the same bytes at the same places
pub known_at : (board : Scoreboard) (place other : ℕ → ℕ) (bytes : List ℕ)
    → ((i : ℕ) → i < length bytes → other i ≡ place i) → AreKnown board place bytes → AreKnown board other bytes
known_at board place other bytes same known =
    record { each = λ i b h is. known.each i b h (ap board (sym (same i h)) ∙ is) }

-- ---- one frame

-- a read brings bytes that are known, as many as it asks for where it is answered
pub record BringsKnown (board : Scoreboard) (place : ℕ → ℕ) (count : ℕ) (lost : Bool) (bytes : List ℕ) : Type 0 where
  pub known : AreKnown board place bytes
  pub most : length bytes ≤ count
  pub long : lost ≡ false → length bytes ≡ count

-- where the strobe came, and where it did not
by_strobe : (board : Scoreboard) (m n : Meaning) (b : Burst) (a count : ℕ) (there : Bool) (bytes : List ℕ)
    → Agrees board n → strobe_at n a ≡ there → Brings m n (read b a count) there bytes
    → BringsKnown board (address m.config m.state b a) count (not there) bytes
by_strobe board m n b a count true bytes agrees strobe brings = record {
  known = record {
    each = λ i x h is.
        brings.each i (omega (arith, brings.long))
        ∙ (agrees.holds (address m.config m.state b a i) x strobe is).byte;
  };
  most = omega (arith, brings.long);
  long = λ found. brings.long;
}
by_strobe board m n b a count false bytes agrees strobe none = record {
  known = none_known board (address m.config m.state b a) bytes none;
  most = omega (arith, ap length none);
  long = λ found. cc;
}

-- a read of a chip that the scoreboard agrees with
pub brings_known : {m n : Meaning} {act : Act} (board : Scoreboard) (b : Burst) (a count : ℕ) → Agrees board m
    → Effect m (read b a count) act n
    → BringsKnown board (address m.config m.state b a) count (is_lost act) (bytes_in act)
brings_known {m} {n} {act} board b a count agrees does =
    let place = address m.config m.state b a in
    let still = agrees_still does (quiet_read b a count) agrees in
    subst (λ gone. BringsKnown board place count gone (bytes_in act)) (sym does.lost)
    (by_strobe board m n b a count (strobe_at n a) (bytes_in act) still refl does.brings)

-- ---- one piece after another

-- what reads of the pieces from s to e bring
pub record BringRange (board : Scoreboard) (s e : ℕ) (acts : List Act) (o : Meaning) : Type 0 where
  pub known : AreKnown board (λ i. s + i) (flat_map bytes_in acts)
  pub long : any_lost acts ≡ false → s + length (flat_map bytes_in acts) ≡ e
  pub agrees : Agrees board o

-- a read of a piece in a page
piece_known : {m n : Meaning} {act : Act} (board : Scoreboard) (s count : ℕ) → IsInPage m.config s count
    → Agrees board m → Effect m (read Linear s count) act n
    → BringsKnown board (λ i. s + i) count (is_lost act) (bytes_in act)
piece_known {m} {n} {act} board s count in_page agrees does =
    let bring = brings_known board Linear s count agrees does in
    let places : (i : ℕ) → i < length (bytes_in act) → s + i ≡ address m.config m.state Linear s i =
    λ i h. sym (wrapped_in_page (page m.config.make) s count i in_page (omega (arith, bring.most))) in
    record {
      known = known_at board (address m.config m.state Linear s) (λ i. s + i) (bytes_in act) places bring.known;
      most = bring.most;
      long = bring.long;
    }

-- reads of pieces of these lengths
pub range_known : (board : Scoreboard) (m o : Meaning) (limit s e : ℕ) (ns : List ℕ) (acts : List Act)
    → AreInPages m.config limit s e ns → Agrees board m → Course m (map read_piece (pieces_from s ns)) acts o
    → BringRange board s e acts o
range_known board m o limit s e [] acts split agrees ended = record {
  known = none_known board (λ i. s + i) [] refl;
  long = λ found. omega arith;
  agrees = agrees;
}
range_known board m o limit s e (n ∷ ns) acts (fit, even, split) agrees
    (answered {n = q} {act = act} {rest = rest} does found more) =
    let one = piece_known board s (s + n - s) (piece_in_page m.config limit s n fit) agrees does in
    let still = agrees_still does (quiet_read Linear s (s + n - s)) agrees in
    let others = range_known board q o limit (s + n) e ns rest
    (subst (λ k. AreInPages k limit (s + n) e ns) (sym does.same.config) split) still more in
    let end : s + length (bytes_in act) ≡ s + n = omega (arith, one.long found) in
    record {
      known = both_known board s (s + n) (bytes_in act) (flat_map bytes_in rest) end one.known others.known;
      long = λ none.
          let last = others.long (or_parts (is_lost act) (any_lost rest) none).1 in
          omega (arith, length-append (bytes_in act) (flat_map bytes_in rest));
      agrees = others.agrees;
    }
range_known board m o limit s e (n ∷ ns) acts (fit, even, split) agrees (unanswered {act = act} does lost) =
    let one = piece_known board s (s + n - s) (piece_in_page m.config limit s n fit) agrees does in
    let end = s + length (bytes_in act) in
    record {
      known = both_known board s end (bytes_in act) [] refl one.known (none_known board (λ i. end + i) [] refl);
      long = λ none. cc (or_parts (is_lost act) (any_lost []) none).0;
      agrees = agrees_still does (quiet_read Linear s (s + n - s)) agrees;
    }
