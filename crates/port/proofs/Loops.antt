-- A range of memory, one frame for each of its pieces: what lasts from one piece to the next.
use Rattle.std.proofs.Common.{◌≡◌, ℕ, ◌+◌, ◌-◌, ◌*◌, ◌%◌, ◌<◌, ◌≤◌, false, ◌||◌, List, [], ◌∷◌, ◌++◌, length, map, Ok, refl, sym, ◌∙◌, ap, subst, append_assoc, arith}
use Rattle.std.specs.List.{flat_map}
use Rattle.std.specs.Prelude.{is_err}
use Rattle.std.proofs.lemmas.List.{flat_map_more}
use Rattle.frame.specs.declared.span.Span.{Span}
use Rattle.chip.specs.Chains.{Exchange, IsExchange}
use Rattle.chip.specs.Meaning.{Meaning, size}
use Rattle.chip.specs.Sent.{Event}
use Rattle.chip.specs.Sizes.{largest_size, most_bytes, most_clocks}
use Rattle.chip.specs.declared.bus_frame.Reply.TheVariants.{Done}
use Rattle.split.specs.Splits.{rounded_from, rounded_to}
use Rattle.split.specs.declared.direction.Direction.{Direction}
use Rattle.port.specs.Acts.{Act, exchanged, Acts, done, next, any_lost, Follows}
use Rattle.port.specs.Answers.{traffic_of, bytes_in, last_answer}
use Rattle.port.specs.Plans.{Task, send, pieces_of}
use Rattle.port.specs.Wakes.{IsReady}
use Rattle.port.specs.declared.traffic.Traffic.{Traffic}
use Rattle.port.proofs.ActLists.{acts_joined, any_lost-append, ends, follows_joined, last_answer-append, with_frame, traffic_more}
use Rattle.port.proofs.Frames.{frame_facts}
use Rattle.port.proofs.MemoryFrames.{even_size}
use Rattle.port.proofs.Pieces.{IsSplit, most_of, most_in_scratch, few, split_of}
use Rattle.port.proofs.Ready.{KeepsLatencies, frame_keeps}
use Rattle.port.proofs.Sends.{low_most}

-- from c to d a frame was sent for each of the first pieces of n bytes from a, and none was lost; these bytes came, and
-- what is left begins at `from`
pub record IsUnderWay {X : Type 0} (meaning : X → Meaning) (gives : X → Event → X → Type 0) (direction : Direction)
    (task : Span → Task) (a n : ℕ) (c : X) (bytes : List ℕ) (from : ℕ) (left : List Span) (traffic : Traffic)
    (d : X) : Type 0 where
  pub did : List Act
  pub acts : Acts meaning gives c did d
  pub tasks : List Task
  pub follows : Follows tasks did
  -- these and those that are left are the plan
  pub planned : tasks ++ map task left ≡ map task (pieces_of direction (meaning c).config a n)
  pub none_lost : any_lost did ≡ false
  pub answered : last_answer did ≡ Ok Done
  pub bytes_are : flat_map bytes_in did ≡ bytes
  pub traffic_is : traffic ≡ traffic_of did
  -- so the sums fit
  pub few : traffic.frames + length left ≤ length (pieces_of direction (meaning c).config a n)
  pub short : traffic.clocks ≤ most_clocks * traffic.frames
  pub split : IsSplit (most_of direction (meaning c).config) from (rounded_to a n) left
  pub ready : IsReady (meaning d)
  pub config : (meaning d).config ≡ (meaning c).config

-- nothing was sent yet
pub begins : {X : Type 0} (meaning : X → Meaning) (gives : X → Event → X → Type 0) (direction : Direction)
    (task : Span → Task) (a n : ℕ) (c : X) (left : List Span) → left ≡ pieces_of direction (meaning c).config a n
    → IsReady (meaning c)
    → IsUnderWay meaning gives direction task a n c [] (rounded_from a) left (traffic_of []) c
begins meaning gives direction task a n c left all ready =
    let k = (meaning c).config in
    let split = split_of direction k a n in
    record {
      did = [];
      acts = done;
      tasks = [];
      follows = refl;
      planned = ap (map task) all;
      none_lost = refl;
      answered = refl;
      bytes_are = refl;
      traffic_is = refl;
      few = omega (arith, ap length all);
      short = omega arith;
      split = subst (IsSplit (most_of direction k) (rounded_from a) (rounded_to a n)) (sym all) split;
      ready = ready;
      config = refl;
    }

-- a piece that is to be sent next, after this traffic, to a chip with this meaning
pub record IsNext (direction : Direction) (a n : ℕ) (piece : Span) (traffic : Traffic) (m : Meaning) : Type 0 where
  pub some : piece.from < piece.to
  pub even : piece.from % 2 ≡ 0
  pub even_end : piece.to % 2 ≡ 0
  pub in_range : piece.from ≤ a + n
  pub in_chip : piece.from < size m.config
  -- short enough for a frame, and for what holds its bytes
  pub short : piece.to - piece.from ≤ most_of direction m.config
  pub in_scratch : piece.to - piece.from ≤ most_bytes
  -- so the sums fit
  pub frames : traffic.frames ≤ largest_size
  pub clocks : traffic.clocks ≤ most_clocks * largest_size

-- the first of the pieces that are left
module _ {X : Type 0} {meaning : X → Meaning} {gives : X → Event → X → Type 0} {direction : Direction}
    {task : Span → Task} {a n : ℕ} {c d : X} {bytes : List ℕ} {from : ℕ} {left rest : List Span} {piece : Span}
    {traffic : Traffic} (so_far : IsUnderWay meaning gives direction task a n c bytes from left traffic d)
    (first : left ≡ piece ∷ rest) where
  at_first : IsUnderWay meaning gives direction task a n c bytes from (piece ∷ rest) traffic d
  at_first = subst (λ ps. IsUnderWay meaning gives direction task a n c bytes from ps traffic d) first so_far

  -- it begins where what is left begins
  pub next_begins : piece.from ≡ from
  next_begins = at_first.split.0.from

  -- what holds of it before it is sent
  pub is_next : a + n ≤ size (meaning c).config → IsNext direction a n piece traffic (meaning d)
  is_next inside =
      let k = (meaning c).config in
      let here = at_first in
      let one = here.split.0 in
      let end = few (most_of direction k) piece.to (rounded_to a n) rest here.split.1 in
      let all = few (most_of direction k) (rounded_from a) (rounded_to a n) _ (split_of direction k a n) in
      let frames : traffic.frames ≤ largest_size = omega (arith, all, here.few, even_size k, k.within_16_mib) in
      let in_chip : piece.from < size k = omega (arith, end, one.some, even_size k) in
      record {
        some = one.some;
        even = one.even;
        even_end = one.even_end;
        in_range = omega (arith, one.some, one.even, end);
        in_chip = subst (λ j. piece.from < size j) (sym here.config) in_chip;
        short = subst (λ j. piece.to - piece.from ≤ most_of direction j) (sym here.config) one.short;
        in_scratch = omega (arith, one.short, most_in_scratch direction k);
        frames = frames;
        clocks = omega (arith, here.short);
      }

  -- it is sent, and not lost: what is left begins at its end
  pub goes_on : (e : X) (x : Exchange) → IsExchange meaning gives d x e → send x.frame ≡ task piece
      → KeepsLatencies (meaning d).config x.frame → x.answer ≡ Ok Done
      → IsUnderWay meaning gives direction task a n c (bytes ++ bytes_in (exchanged x)) piece.to rest
      (with_frame traffic x.low) e
  goes_on e x one is keeps answer =
      let here = at_first in
      let act = exchanged x ∷ [] in
      let low = low_most meaning gives d e x one in
      let facts = frame_facts meaning gives d e x one here.ready.awake in
      let follows : Follows (task piece ∷ []) act = (is, ends (is_err x.answer)) in
      record {
        did = here.did ++ act;
        acts = acts_joined meaning gives c d e here.did act here.acts (next one done);
        tasks = here.tasks ++ task piece ∷ [];
        follows = follows_joined here.tasks (task piece ∷ []) here.did act here.follows here.none_lost follows;
        planned = append_assoc here.tasks (task piece ∷ []) (map task rest) ∙ here.planned;
        none_lost = any_lost-append here.did act here.none_lost ∙ ap (λ r. is_err r || false) answer;
        answered = last_answer-append here.did act here.answered answer;
        bytes_are =
            sym (flat_map_more bytes_in [] here.did (exchanged x))
            ∙ ap (λ bs. bs ++ bytes_in (exchanged x)) here.bytes_are;
        traffic_is = traffic_more here.did x traffic here.traffic_is;
        few = omega (arith, here.few);
        short = omega (arith, here.short);
        split = here.split.1;
        ready = frame_keeps (meaning d) (meaning e) x facts keeps here.ready;
        config = facts.same.config ∙ here.config;
      }
