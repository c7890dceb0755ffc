-- A read: its buffer holds the bytes that came, from one piece to the next, up to the last or to one that is lost.
use Rattle.std.proofs.Common.{◌≡◌, ℕ, ◌+◌, ◌-◌, ◌%◌, ◌≤◌, Bool, true, false, MatchBool, ◌||◌, min, List, [], ◌∷◌, ◌++◌, length, take, drop, map, Ok, Err, refl, sym, ◌∙◌, ap, subst, arith, length-append, length-drop}
use Rattle.std.specs.List.{flat_map}
use Rattle.std.specs.Prelude.{is_err}
use Rattle.std.proofs.Math.Seq.{drop-nil}
use Rattle.std.proofs.lemmas.Bool.{cond-true}
use Rattle.std.proofs.lemmas.List.{append-nil, flat_map_more}
use Rattle.fault.specs.Refusals.{fault_at}
use Rattle.fault.specs.declared.Refusal.TheVariants.{NoStrobe}
use Rattle.frame.specs.declared.burst.Burst.TheVariants.{Linear}
use Rattle.frame.specs.declared.span.Span.{Span}
use Rattle.chip.specs.Chains.{Exchange, IsExchange}
use Rattle.chip.specs.Meaning.{Meaning}
use Rattle.chip.specs.Sent.{Event, Answer, read, read_bytes}
use Rattle.chip.specs.Taken.{is_answered, answer_by}
use Rattle.chip.specs.declared.bus_frame.Reply.TheVariants.{Done}
use Rattle.chip.specs.declared.config.Config.{Config}
use Rattle.chip.specs.declared.state.State.{State}
use Rattle.split.specs.Splits.{rounded_from}
use Rattle.split.specs.declared.direction.Direction.TheVariants.{Read}
use Rattle.port.specs.Acts.{Act, exchanged, done, next, any_lost, Follows}
use Rattle.port.specs.Answers.{traffic_of, bytes_in, buffer_with, last_answer}
use Rattle.port.specs.Plans.{send, pieces_of, read_piece}
use Rattle.port.specs.Requests as requests
use Rattle.port.specs.Serves.{IsPerformed}
use Rattle.port.specs.Wakes.{IsReady}
use Rattle.port.specs.declared.traffic.Traffic.{Traffic}
use Rattle.port.proofs.ActLists.{acts_joined, any_lost-append, follows_joined, with_frame, traffic_more}
use Rattle.port.proofs.Frames.{FrameFacts, frame_facts}
use Rattle.port.proofs.Laid.{laid_in, laid_on}
use Rattle.port.proofs.Loops.{IsUnderWay, begins, next_begins, goes_on}
use Rattle.port.proofs.Performs.{read_lost}
use Rattle.port.proofs.Ready.{KeepsLatencies}

-- a read that is not lost is done
answered : (k : Config) (s : State) (there : Bool) (a n : ℕ) (r : Answer) → r ≡ answer_by k s there (read Linear a n)
    → is_err r ≡ false → r ≡ Ok Done
answered k s true a n r is found = is
answered k s false a n r is found = let never : true ≡ false = sym (ap is_err is) ∙ found in cc

-- the first pieces were read into the buffer: it takes what came, from the start on
pub record IsReading {X : Type 0} (meaning : X → Meaning) (gives : X → Event → X → Type 0) (a : ℕ) (old : List ℕ)
    (c : X) (left : List Span) (traffic : Traffic) (buffer : List ℕ) (d : X) : Type 0 where
  pub bytes : List ℕ
  pub under_way : IsUnderWay meaning gives Read read_piece a (length old) c bytes (rounded_from a + length bytes) left
      traffic d
  pub buffer_is : buffer ≡ buffer_with old (drop (a % 2) bytes)

-- nothing was read yet
pub read_begins : {X : Type 0} (meaning : X → Meaning) (gives : X → Event → X → Type 0) (a : ℕ) (old : List ℕ) (c : X)
    (left : List Span) → left ≡ pieces_of Read (meaning c).config a (length old) → IsReady (meaning c)
    → IsReading meaning gives a old c left (traffic_of []) old c
read_begins meaning gives a old c left all ready =
    let none : rounded_from a ≡ rounded_from a + 0 = omega arith in
    record {
      bytes = [];
      under_way =
          subst (λ s. IsUnderWay meaning gives Read read_piece a (length old) c [] s left (traffic_of []) c) none
          (begins meaning gives Read read_piece a (length old) c left all ready);
      buffer_is = sym (laid_in old [] (omega arith)) ∙ ap (buffer_with old) (sym (drop-nil (a % 2)));
    }

-- the next piece is sent
module _ {X : Type 0} {meaning : X → Meaning} {gives : X → Event → X → Type 0} {a : ℕ} {old : List ℕ} {c d e : X}
    {left rest : List Span} {piece : Span} {traffic : Traffic} {buffer : List ℕ} {x : Exchange}
    (so_far : IsReading meaning gives a old c left traffic buffer d) (first : left ≡ piece ∷ rest)
    (one : IsExchange meaning gives d x e) (is : x.frame ≡ read Linear piece.from (piece.to - piece.from)) where
  facts : FrameFacts (meaning d) x (meaning e)
  facts = frame_facts meaning gives d e x one so_far.under_way.ready.awake

  module _ {place : ℕ} (place_is : place ≡ piece.from - a) (room : place ≤ length old) where
    -- its bytes are laid behind those that came before, without the one in front of an odd start
    pub read_goes_on : {skip : ℕ} {new : List ℕ} → is_err x.answer ≡ false → length x.after ≡ piece.to - piece.from
        → skip ≡ a - piece.from → new ≡ take place buffer ++ buffer_with (drop place buffer) (drop skip x.after)
        → IsReading meaning gives a old c rest (with_frame traffic x.low) new e
    read_goes_on {skip} found long skip_is new_is =
        let way = so_far.under_way in
        let bytes = so_far.bytes in
        let m = meaning d in
        let there = is_answered (meaning e) x.frame in
        let from = next_begins way first in
        let answer =
        answered m.config m.state there piece.from (piece.to - piece.from) x.answer
        (facts.answer ∙ ap (λ f. answer_by m.config m.state there f) is) found in
        let came : bytes_in (exchanged x) ≡ x.after = λ i. read_bytes (is i) (answer i) x.after in
        let keeps = subst (λ f. KeepsLatencies m.config f) (sym is) tt in
        let ends : piece.to ≡ rounded_from a + length (bytes ++ x.after) =
        omega (arith, from, long, length-append bytes x.after) in
        let on = goes_on way first e x one (ap send is) keeps answer in
        let way_to : List ℕ → ℕ → Type 0 =
        λ bs s. IsUnderWay meaning gives Read read_piece a (length old) c bs s rest (with_frame traffic x.low) e in
        record {
          bytes = bytes ++ x.after;
          under_way = subst (way_to (bytes ++ x.after)) ends (subst (λ bs. way_to (bytes ++ bs) piece.to) came on);
          buffer_is =
              new_is ∙ ap (λ b. take place b ++ buffer_with (drop place b) (drop skip x.after)) so_far.buffer_is
              ∙ laid_on old bytes x.after (a % 2) place skip (omega (arith, from)) (omega (arith, from)) room;
        }

    -- or it is lost
    pub read_is_lost : is_err x.answer ≡ true
        → IsPerformed meaning gives c (requests.read a (length old)) old
        (record { answer = Err (fault_at (NoStrobe place) a); traffic = with_frame traffic x.low }) buffer e
    read_is_lost lost =
        let way = so_far.under_way in
        let act = exchanged x ∷ [] in
        let did = way.did ++ act in
        let from = next_begins way first in
        let none = read_lost (meaning d) (meaning e) x Linear piece.from (piece.to - piece.from) facts is lost in
        let bytes : flat_map bytes_in did ≡ so_far.bytes =
        sym (flat_map_more bytes_in [] way.did (exchanged x)) ∙ (λ i. way.bytes_are i ++ none i)
        ∙ append-nil so_far.bytes in
        let good_is : min (length (drop (a % 2) (flat_map bytes_in did))) (length old) ≡ place =
        omega (arith, from, length-drop (a % 2) (flat_map bytes_in did), ap length bytes) in
        let lost_is : any_lost did ≡ true = any_lost-append way.did act way.none_lost ∙ ap (λ b. b || false) lost in
        let tasks = map read_piece (piece ∷ rest) in
        let after : Bool → Type 0 = λ b. MatchBool b (◌≡◌ {A = List Act} [] []) (Follows (map read_piece rest) []) in
        let follows : Follows tasks act = (ap send is, subst after (sym lost) refl) in (
          did,
          record {
            acts = acts_joined meaning gives c d e way.did act way.acts (next one done);
            follows =
                subst (λ ts. Follows ts did) (ap (λ ps. way.tasks ++ map read_piece ps) (sym first) ∙ way.planned)
                (follows_joined way.tasks tasks way.did act way.follows way.none_lost follows);
            answer =
                ap (λ k. Err (fault_at (NoStrobe k) a)) (sym good_is)
                ∙ sym (cond-true (any_lost did) _ (last_answer did) lost_is);
            traffic = traffic_more way.did x traffic way.traffic_is;
            buffer = so_far.buffer_is ∙ ap (λ bs. buffer_with old (drop (a % 2) bs)) (sym bytes);
          },
        )
