-- From what was done to what a request is promised.
use Rattle.std.proofs.Common.{◌≡◌, ℕ, ◌%◌, Bool, true, false, if◌then◌else◌, List, [], ◌∷◌, ◌++◌, length, take, drop, min, Ok, Err, refl, sym, ap, ◌∙◌, subst, true≢false, arith}
use Rattle.std.specs.Prelude.{is_err}
use Rattle.std.specs.List.{flat_map}
use Rattle.std.proofs.Math.Seq.{take-nil, drop-nil, take-length, drop-length}
use Rattle.std.proofs.lemmas.List.{append-nil}
use Rattle.std.proofs.Math.Bool.{or-false}
use Rattle.std.proofs.lemmas.Grind.{flat_map-append}
use Rattle.std.proofs.lemmas.List.Concat.{flat_map-cons}
use Rattle.fault.specs.Refusals.{fault_at}
use Rattle.fault.specs.declared.Refusal.TheVariants.{NoStrobe}
use Rattle.chip.specs.Chains.{Exchange, IsExchange}
use Rattle.chip.specs.Meaning.{Meaning}
use Rattle.chip.specs.Sent.{Event, Answer, read, read_bytes, place as place_of_frame}
use Rattle.chip.specs.Taken.{is_answered, answer_by, Filled}
use Rattle.frame.specs.declared.burst.Burst.{Burst}
use Rattle.port.proofs.Frames.{FrameFacts}
use Rattle.chip.specs.declared.bus_frame.Reply.TheVariants.{Done}
use Rattle.port.specs.Acts.{Act, exchanged, done, next, any_lost, Follows}
use Rattle.port.specs.Answers.{bytes_in, answer_in, request_bytes, buffer_with, good_count, last_answer}
use Rattle.port.specs.Carried.{CarriesOut}
use Rattle.port.specs.Plans.{Task, send, plan}
use Rattle.port.specs.Requests.{Request, place}
use Rattle.port.specs.Serves.{IsPerformed}
use Rattle.port.specs.declared.traffic.Traffic.{Traffic}
use Rattle.port.proofs.ActLists.{acts_joined, any_lost-append, ends, follows_joined, with_frame, traffic_more}

-- the last answer is that of the last act
last_answer-snoc : (xs : List Act) (x : Act) → last_answer (xs ++ x ∷ []) ≡ answer_in x
last_answer-snoc [] x = refl
last_answer-snoc (y ∷ []) x = refl
last_answer-snoc (y ∷ (z ∷ zs)) x = last_answer-snoc (z ∷ zs) x

-- a buffer that takes no bytes stays
pub laid_none : (buffer : List ℕ) → buffer_with buffer [] ≡ buffer
laid_none buffer = ap (λ xs. xs ++ buffer) (take-nil (length buffer))

-- a buffer that takes as many bytes as it has holds these
pub laid_all : (buffer bytes : List ℕ) → length bytes ≡ length buffer → buffer_with buffer bytes ≡ bytes
laid_all buffer bytes long =
    let whole : take (length buffer) bytes ≡ bytes = ap (λ k. take k bytes) (sym long) ∙ take-length bytes in
    let rest : drop (length bytes) buffer ≡ [] = ap (λ k. drop k buffer) long ∙ drop-length buffer in
    (λ i. whole i ++ rest i) ∙ append-nil bytes

-- ---- one read frame

-- a frame that is lost answers 19, with its place
pub lost_answer : (m n : Meaning) (x : Exchange) → FrameFacts m x n → is_err x.answer ≡ true
    → x.answer ≡ Err (fault_at (NoStrobe 0) (place_of_frame x.frame))
lost_answer m n x facts lost = by_strobe (is_answered n x.frame) facts.answer
  where
    by_strobe : (there : Bool) → x.answer ≡ answer_by m.config m.state there x.frame
        → x.answer ≡ Err (fault_at (NoStrobe 0) (place_of_frame x.frame))
    by_strobe true is = absurd (true≢false (sym lost ∙ ap is_err is))
    by_strobe false is = is

module _ (m n : Meaning) (x : Exchange) (b : Burst) (a count : ℕ) (facts : FrameFacts m x n)
    (is : x.frame ≡ read b a count) where
  -- by whether the strobe came
  read_by : (there : Bool) → x.answer ≡ answer_by m.config m.state there (read b a count)
      → Filled m.config m.state there (read b a count) n.byte x.before x.after
      → x.after ≡ buffer_with x.before (read_bytes (read b a count) x.answer x.after)
  read_by true answer filled =
      sym (ap (λ r. buffer_with x.before (read_bytes (read b a count) r x.after)) answer
      ∙ laid_all x.before x.after filled.long)
  read_by false answer filled =
      filled ∙ sym (ap (λ r. buffer_with x.before (read_bytes (read b a count) r x.after)) answer ∙ laid_none x.before)

  -- its buffer takes what came
  read_lays : x.after ≡ buffer_with x.before (bytes_in (exchanged x))
  read_lays =
      read_by (is_answered n (read b a count))
      (facts.answer ∙ ap (λ f. answer_by m.config m.state (is_answered n f) f) is)
      (subst (λ f. Filled m.config m.state (is_answered n f) f n.byte x.before x.after) is facts.buffer)
      ∙ ap (λ f. buffer_with x.before (read_bytes f x.answer x.after)) (sym is)

  -- from an even start on
  pub read_lays_even : a % 2 ≡ 0 → x.after ≡ buffer_with x.before (drop (a % 2) (bytes_in (exchanged x)))
  read_lays_even even = read_lays ∙ ap (λ k. buffer_with x.before (drop k (bytes_in (exchanged x)))) (sym even)

  -- nothing comes where it is lost
  pub read_lost : is_err x.answer ≡ true → bytes_in (exchanged x) ≡ []
  read_lost lost =
      ap (λ f. read_bytes f x.answer x.after) is
      ∙ ap (λ r. read_bytes (read b a count) r x.after) (lost_answer m n x facts lost)

-- what is answered, by whether an act was lost
abbrev answer_where : List ℕ → Request → List Act → Bool → Answer
answer_where buffer q acts lost =
    if lost then Err (fault_at (NoStrobe (good_count buffer q acts)) (place q)) else last_answer acts

module _ {X : Type 0} (meaning : X → Meaning) (gives : X → Event → X → Type 0) where
  -- all was carried out, and nothing was read
  pub performs_carried : (c d : X) (q : Request) (t : Traffic) (buffer : List ℕ)
      → CarriesOut meaning gives c (plan (meaning c).config (meaning c).state q) t d
      → IsPerformed meaning gives c q buffer record { answer = Ok Done; traffic = t } buffer d
  performs_carried c d q t buffer carried = (
    carried.did,
    record {
      acts = carried.acts;
      follows = carried.follows;
      answer = sym (ap (answer_where buffer q carried.did) carried.none_lost ∙ carried.answered);
      traffic = carried.traffic_is;
      buffer =
          sym (ap (λ bytes. buffer_with buffer (drop (place q % 2) bytes)) carried.silent
          ∙ ap (buffer_with buffer) (drop-nil (place q % 2)) ∙ laid_none buffer);
    },
  )

  -- some tasks were carried out, and then a last frame was sent, which may be lost
  module _ (c d e : X) (q : Request) (x : Exchange) (tasks : List Task) (t : Traffic) (old new : List ℕ)
      (carried : CarriesOut meaning gives c tasks t d) (one : IsExchange meaning gives d x e)
      (planned : tasks ++ send x.frame ∷ [] ≡ plan (meaning c).config (meaning c).state q)
      (lost : is_err x.answer ≡ true
      → (x.answer ≡ Err (fault_at (NoStrobe 0) (place q))) × (bytes_in (exchanged x) ≡ []))
      (buffer : new ≡ buffer_with old (drop (place q % 2) (bytes_in (exchanged x)))) where
    -- all that was done
    acts_all : List Act
    acts_all = carried.did ++ exchanged x ∷ []

    -- the bytes that came are those of the last frame
    bytes_all : flat_map bytes_in acts_all ≡ bytes_in (exchanged x)
    unfolding acts_all
    bytes_all =
        flat_map-append bytes_in carried.did (exchanged x ∷ [])
        ∙ ap (λ bytes. bytes ++ flat_map bytes_in (exchanged x ∷ [])) carried.silent
        ∙ flat_map-cons bytes_in (exchanged x) [] ∙ append-nil (bytes_in (exchanged x))

    -- so is whether a strobe was lost
    lost_all : any_lost acts_all ≡ is_err x.answer
    unfolding acts_all
    lost_all = any_lost-append carried.did (exchanged x ∷ []) carried.none_lost ∙ or-false (is_err x.answer)

    -- and the last answer
    last_all : last_answer acts_all ≡ x.answer
    unfolding acts_all
    last_all = last_answer-snoc carried.did (exchanged x)

    -- the answer, by whether the last frame was lost
    answer_all : (lost : Bool) → is_err x.answer ≡ lost → x.answer ≡ answer_where old q acts_all lost
    answer_all true is =
        let none : request_bytes q acts_all ≡ [] = ap (drop (place q % 2)) (bytes_all ∙ (lost is).1) ∙ drop-nil (place q % 2) in
        let zero : good_count old q acts_all ≡ 0 = ap (λ bytes. min (length bytes) (length old)) none ∙ omega arith in
        (lost is).0 ∙ ap (λ k. Err (fault_at (NoStrobe k) (place q))) (sym zero)
    answer_all false is = sym last_all

    -- that is what the request is promised
    pub performs_frame : IsPerformed meaning gives c q old record {
      answer = x.answer;
      traffic = with_frame t x.low;
    } new e
    unfolding acts_all
    performs_frame = (
      acts_all,
      record {
        acts = acts_joined meaning gives c d e carried.did (exchanged x ∷ []) carried.acts (next one done);
        follows = subst (λ p. Follows p acts_all) planned
            (follows_joined tasks (send x.frame ∷ []) carried.did (exchanged x ∷ []) carried.follows carried.none_lost
            (refl, ends (is_err x.answer)));
        answer = answer_all (is_err x.answer) refl ∙ ap (answer_where old q acts_all) (sym lost_all);
        traffic = traffic_more carried.did x t carried.traffic_is;
        buffer = buffer ∙ ap (λ bytes. buffer_with old (drop (place q % 2) bytes)) (sym bytes_all);
      },
    )
