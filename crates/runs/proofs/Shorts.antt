-- Every frame of a history is short, they are as few as can be, and the chip counts them.
use Rattle.std.proofs.Common.{◌≡◌, ℕ, ◌+◌, ◌≤◌, ◌<◌, ◌↔◌, ◌⊎◌, Bool, true, false, if◌then◌else◌, List, [], ◌∷◌, ◌++◌, length, map, sum_by, Some, None, Ok, Err, Option, inl, inr, sym, refl, ap, ◌∙◌, subst, arith}
use Rattle.std.specs.Prelude.{All, IfSome, OnOk, drop, is_err}
use Rattle.std.proofs.lemmas.List.{length-map}
use Rattle.std.proofs.lemmas.List.Elements.{All-cons, All-nil, All-append, All-weaker}
use Rattle.std.proofs.lemmas.List.Sums.{sum_by-cons}
use Rattle.std.proofs.lemmas.Option.{same_Some}
use Rattle.clock.specs.Made.{LastsAtMost}
use Rattle.clock.specs.Times.{clocks, tcem_ns}
use Rattle.clock.specs.declared.numbers.Clock.{Clock}
use Rattle.fault.specs.Refusals.{details, fault_at}
use Rattle.fault.specs.declared.Fault.{Fault}
use Rattle.fault.specs.declared.Refusal.{Refusal}
use Rattle.fault.specs.declared.Refusal.TheVariants.{NoStrobe}
use Rattle.frame.specs.Low.{saturated}
use Rattle.frame.specs.Pages.{page}
use Rattle.chip.specs.Meaning.{Meaning, size, most_low, refreshed}
use Rattle.chip.specs.Refused.{first_refusal}
use Rattle.chip.specs.Runs.{CountsFit, RisesBy}
use Rattle.chip.specs.Sent.{Event, Answer, global_reset}
use Rattle.chip.specs.Taken.{reset_value}
use Rattle.chip.specs.declared.config.Config.{Config}
use Rattle.chip.specs.declared.state.Phase.TheVariants.{Awake}
use Rattle.chip.specs.declared.state.State.{State}
use Rattle.chip.proofs.Counts.{risen_on, still_fit}
use Rattle.split.specs.Splits.{longest_first, rounded_from, rounded_to}
use Rattle.split.specs.declared.direction.Direction.{Direction}
use Rattle.split.specs.declared.direction.Direction.TheVariants.{Read, Write}
use Rattle.split.proofs.Fewest.{fewest_here}
use Rattle.split.proofs.Longest.{length_pieces_from}
use Rattle.port.specs.Acts.{Act, exchanged, pulsed, IsAct, Acts, done, next, is_lost, any_lost, Follows}
use Rattle.port.specs.Answers.{frames_in, low_in, good_count, last_answer, answer_of}
use Rattle.port.specs.Plans.{Task, pieces_of, read_piece, write_piece, plan, set_up}
use Rattle.port.specs.Requests.{Request, place, refusal, tests}
use Rattle.port.specs.Requests as requests
use Rattle.port.specs.Serves.{Woken, Transaction, Judged, Serves}
use Rattle.port.specs.Wakes.{IsReady, wake_plan}
use Rattle.runs.specs.Histories.{refusal_number}
use Rattle.runs.specs.Shorts.{acts_of, IsShort, IsSplit, IsSplitInto, IsFewest, ShortAndFew}
use Rattle.port.proofs.ActLists.{acts_joined, last_found}
use Rattle.port.proofs.Frames.{frame_facts, pulse_facts, wake_facts}
use Rattle.port.proofs.Pieces.{most_of, some_most}
use Rattle.port.proofs.Ready.{act_same, act_awake, rest_by, first_frame, acts_wake, ready_by}
use Rattle.runs.proofs.Served.{history_acts, each_served}
use Rattle.runs.proofs.Parted.{judged_split}
use Rattle.runs.proofs.Reported.{served_traffic, sums_agree}

-- ---- every frame is short

-- tCEM in whole clocks
exactly : (clock : Clock) (n : ℕ) → (n ≤ clock.tcem) ↔ LastsAtMost n clock.khz (tcem_ns clock.range)
exactly clock n = (λ h. omega (arith, clock.low), λ h. omega (arith, clock.low))

-- what is at most tCEM in clocks lasts at most tCEM
short_by : (k : Config) (low : ℕ) → low ≤ most_low k → IsShort k low
short_by k low h = record { clocks = h; lasts = (exactly k.clock low).0 h }

-- each act is low for at most tCEM
abbrev EachLow : Config → List Act → Type 0
EachLow k acts = All (λ act. low_in act ≤ most_low k) acts

-- ---- the chip counts them

-- a chip whose counts stay
stays : (m n : Meaning) → n.state.frames ≡ m.state.frames → n.state.clocks ≡ m.state.clocks → CountsFit m
    → RisesBy m 0 0 n
stays m n frames clocks fit =
    record { frames = omega (arith, fit.frames); clocks = omega (arith, fit.clocks) }

module _ {X : Type 0} (meaning : X → Meaning) (gives : X → Event → X → Type 0) where
  -- one act of an awake chip
  act_low : (c d : X) (act : Act) → IsAct meaning gives c act d → (meaning c).state.phase ≡ Awake
      → low_in act ≤ most_low (meaning c).config
  act_low c d (exchanged x) one awake = (frame_facts meaning gives c d x one awake).low
  act_low c d (pulsed n) one awake = omega arith

  -- all acts of an awake chip
  acts_low : (c d : X) (acts : List Act) → Acts meaning gives c acts d → (meaning c).state.phase ≡ Awake
      → EachLow (meaning c).config acts
  acts_low c d [] done awake = All-nil (λ a. low_in a ≤ most_low (meaning c).config)
  acts_low c d (act ∷ rest) (next {d = e} one more) awake =
      let same = act_same meaning gives c e act one awake in
      All-cons (λ a. low_in a ≤ most_low (meaning c).config) act rest (act_low c e act one awake)
      (subst (λ k. EachLow k rest) same.config (acts_low e d rest more (act_awake meaning gives c e act one awake)))

  -- the counts rise by what one act sends
  act_counted : (c d : X) (act : Act) → IsAct meaning gives c act d → (meaning c).state.phase ≡ Awake
      → CountsFit (meaning c) → RisesBy (meaning c) (frames_in act) (low_in act) (meaning d)
  act_counted c d (exchanged x) one awake fit = (frame_facts meaning gives c d x one awake).counts fit
  act_counted c d (pulsed n) one awake fit =
      let facts = pulse_facts meaning gives c d n one in
      stays (meaning c) (meaning d) facts.frames facts.clocks fit

  -- the counts rise by what all acts send
  acts_counted : (c d : X) (acts : List Act) → Acts meaning gives c acts d → (meaning c).state.phase ≡ Awake
      → CountsFit (meaning c) → RisesBy (meaning c) (sum_by frames_in acts) (sum_by low_in acts) (meaning d)
  acts_counted c d [] done awake fit = stays (meaning c) (meaning c) refl refl fit
  acts_counted c d (act ∷ rest) (next {d = e} one more) awake fit =
      let first = act_counted c e act one awake fit in
      let fits = still_fit (meaning c) (meaning e) (frames_in act) (low_in act) first in
      let others = acts_counted e d rest more (act_awake meaning gives c e act one awake) fits in
      let sums = risen_on (meaning c) (meaning e) (meaning d) (frames_in act) (low_in act) (sum_by frames_in rest)
      (sum_by low_in rest) first others in
      record {
        frames = sums.frames
            ∙ ap (λ n. saturated ((meaning c).state.frames + n)) (sym (sum_by-cons frames_in act rest));
        clocks = sums.clocks ∙ ap (λ n. saturated ((meaning c).state.clocks + n)) (sym (sum_by-cons low_in act rest));
      }

-- what is true of the acts of a wake
record WakesShort (m : Meaning) (woke : List Act) (n : Meaning) : Type 0 where
  low : EachLow m.config woke
  fit : CountsFit n

module _ {X : Type 0} (meaning : X → Meaning) (gives : X → Event → X → Type 0) where
  -- the wake frame, and the two registers after it
  wake_low : (c d : X) (acts : List Act) → Follows (wake_plan (meaning c).config) acts → Acts meaning gives c acts d
      → WakesShort (meaning c) acts (meaning d)
  wake_low c d acts follows all =
      let m = meaning c in
      let first = first_frame meaning gives c d global_reset (set_up m.config) acts follows all in
      let n = meaning first.after in
      let facts = wake_facts meaning gives c first.after first.exchange first.one first.frame in
      let zero_fits : CountsFit n =
      record { frames = omega (arith, facts.frames); clocks = omega (arith, facts.clocks) } in
      let rises = acts_counted meaning gives first.after d first.rest first.more facts.awake zero_fits in
      let rest = subst (λ k. EachLow k first.rest) facts.same.config
      (acts_low meaning gives first.after d first.rest first.more facts.awake) in
      record {
        low = subst (EachLow m.config) (sym first.all)
            (All-cons (λ a. low_in a ≤ most_low m.config) (exchanged first.exchange) first.rest facts.low rest);
        fit = still_fit n (meaning d) (sum_by frames_in first.rest) (sum_by low_in first.rest) rises;
      }

-- ---- no lawful split has fewer pieces

-- an act is at most one frame
one_at_most : (act : Act) → frames_in act ≤ 1
one_at_most (exchanged x) = omega arith
one_at_most (pulsed n) = omega arith

-- at most one frame for each task of a plan
frames_at_most : (tasks : List Task) (acts : List Act) → Follows tasks acts → sum_by frames_in acts ≤ length tasks
frames_at_most [] acts none = omega (arith, ap (sum_by frames_in) none)
frames_at_most (task ∷ tasks) [] never = absurd never
frames_at_most (task ∷ tasks) (act ∷ rest) (is, on) =
    let more : sum_by frames_in rest ≤ length tasks =
    rest_by (λ acts. sum_by frames_in acts ≤ length tasks) tasks rest (is_lost act) (omega arith)
    (frames_at_most tasks rest) on in
    omega (arith, sum_by-cons frames_in act rest, one_at_most act)

-- the pieces of a range are no more than those of any lawful split of it
pieces_fewest : (d : Direction) (k : Config) (a n : ℕ) (lengths : List ℕ) → IsSplit d k a n lengths
    → length (pieces_of d k a n) ≤ length lengths
pieces_fewest d k a n lengths split =
    let most = most_of d k in
    let from = rounded_from a in
    let to = rounded_to a n in
    let fewest = fewest_here k.make most (some_most d k) (omega arith) from to lengths split in
    omega (arith, length_pieces_from from (longest_first (page k.make) most from to), fewest)

-- what followed the plan of a request took as few frames as can be
few_frames : (k : Config) (s : State) (q : Request) (acts : List Act) → Follows (plan k s q) acts
    → IsFewest k q (sum_by frames_in acts)
few_frames k s (requests.read a n) acts follows = λ lengths split.
    let most = frames_at_most (map read_piece (pieces_of Read k a n)) acts follows in
    let count = length-map (pieces_of Read k a n) read_piece in
    let fewest = pieces_fewest Read k a n lengths split in
    omega arith
few_frames k s (requests.write a bytes mask) acts follows = λ lengths split.
    let most = frames_at_most (map (write_piece a bytes mask) (pieces_of Write k a (length bytes))) acts follows in
    let count = length-map (pieces_of Write k a (length bytes)) (write_piece a bytes mask) in
    let fewest = pieces_fewest Write k a (length bytes) lengths split in
    omega arith
few_frames k s (requests.fill a n) acts follows = tt
few_frames k s (requests.latency_type v) acts follows = tt
few_frames k s (requests.coverage v) acts follows = tt
few_frames k s (requests.register r) acts follows = tt
few_frames k s requests.reset acts follows = tt

-- no frames are as few as can be
no_frames : (k : Config) (q : Request) → IsFewest k q 0
no_frames k (requests.read a n) = λ lengths split. omega arith
no_frames k (requests.write a bytes mask) = λ lengths split. omega arith
no_frames k (requests.fill a n) = tt
no_frames k (requests.latency_type v) = tt
no_frames k (requests.coverage v) = tt
no_frames k (requests.register r) = tt
no_frames k requests.reset = tt

-- ---- what the port foresees

-- 6 to 12, with nothing done, or 19
abbrev IsForeseen : List Act → Answer → Type 0
IsForeseen acts answer = IfSome (refusal_number answer) (λ k. ((6 ≤ k) × (k ≤ 12) × (acts ≡ [])) ⊎ (k ≡ 19))

-- the number of a refusal of the port
abbrev pub IsPortRefusal : Refusal → Type 0
IsPortRefusal r = (6 ≤ (details r).number) × ((details r).number ≤ 12)

-- each refusal of a list of tests is the port's
abbrev pub OfPort : List (Bool × Refusal) → Type 0
OfPort [] = Unit {0}
OfPort ((t, r) ∷ rest) = IsPortRefusal r × OfPort rest

-- so is the refusal of the first that holds
pub first_of_port : (list : List (Bool × Refusal)) (e : Refusal) → OfPort list → first_refusal list ≡ Some e
    → IsPortRefusal e
unfolding first_refusal
first_of_port [] e all is = cc
first_of_port ((true, r) ∷ rest) e all is = subst IsPortRefusal (same_Some r e is) all.0
first_of_port ((false, r) ∷ rest) e all is = first_of_port rest e all.1 is

pub first_below : (list : List (Bool × Refusal)) (e : Refusal) → OfPort list → first_refusal list ≡ Some e
    → (details e).number < 13
first_below list e all is = omega (arith, (first_of_port list e all is).1)

-- the tests of each request
pub tests_below : (lost : Bool) (size : ℕ) (kept : ℕ → Bool) (q : Request) → OfPort (tests lost size kept q)
tests_below lost size kept (requests.read a n) = (
  (omega arith, omega arith),
  (
    (omega arith, omega arith),
    ((omega arith, omega arith), ((omega arith, omega arith), tt)),
  ),
)
tests_below lost size kept (requests.write a bytes mask) = (
  (omega arith, omega arith),
  (
    (omega arith, omega arith),
    ((omega arith, omega arith), ((omega arith, omega arith), ((omega arith, omega arith), tt))),
  ),
)
tests_below lost size kept (requests.fill a n) = (
  (omega arith, omega arith),
  (
    (omega arith, omega arith),
    ((omega arith, omega arith), ((omega arith, omega arith), tt)),
  ),
)
tests_below lost size kept (requests.latency_type v) = ((omega arith, omega arith), ((omega arith, omega arith), tt))
tests_below lost size kept (requests.coverage v) = ((omega arith, omega arith), ((omega arith, omega arith), tt))
tests_below lost size kept (requests.register r) = ((omega arith, omega arith), ((omega arith, omega arith), tt))
tests_below lost size kept requests.reset = tt

-- an answer that is no fault
found : (acts : List Act) (answer : Answer) → is_err answer ≡ false → IsForeseen acts answer
found acts (Ok r) e = tt
found acts (Err f) e = cc

-- the answer to a request that is taken
answer_foreseen : (buffer : List ℕ) (q : Request) (acts : List Act) → IsForeseen acts (answer_of buffer q acts)
answer_foreseen buffer q acts =
    by_lost (any_lost acts) (fault_at (NoStrobe (good_count buffer q acts)) (place q)) (last_answer acts) refl
    (λ none. last_found acts none)
  where
    by_lost : (lost : Bool) (fault : Fault ℕ) (last : Answer) → (details fault.refusal).number ≡ 19
        → (lost ≡ false → is_err last ≡ false) → IsForeseen acts (if lost then Err fault else last)
    by_lost true fault last nineteen none = inr nineteen
    by_lost false fault last nineteen none = found acts last (none refl)

module _ {X : Type 0} (meaning : X → Meaning) (gives : X → Event → X → Type 0) where
  -- a request, refused or taken, took as few frames as can be
  judged_few : (o : Option Refusal) (p q : Woken X) (t : Transaction) → Judged meaning gives o p t q
      → IsFewest (meaning p.chip).config t.request t.traffic.frames
  judged_few (Some e) p q t refuses =
      subst (IsFewest (meaning p.chip).config t.request) (sym (ap (λ r. r.frames) refuses.traffic))
      (no_frames (meaning p.chip).config t.request)
  judged_few None p q t (performs, lost) =
      subst (IsFewest (meaning p.chip).config t.request) (sym (ap (λ r. r.frames) performs.traffic))
      (few_frames (meaning p.chip).config (meaning p.chip).state t.request t.acts performs.follows)

  -- a request, refused or taken, has an answer that is foreseen
  judged_foreseen : (o : Option Refusal) (p q : Woken X) (t : Transaction)
      → ((e : Refusal) → o ≡ Some e → IsPortRefusal e) → Judged meaning gives o p t q → IsForeseen t.acts t.answer
  judged_foreseen (Some e) p q t below refuses =
      subst (IsForeseen t.acts) (sym refuses.answer) (inl ((below e refl).0, (below e refl).1, refuses.acts))
  judged_foreseen None p q t below (performs, lost) =
      subst (IsForeseen t.acts) (sym performs.answer) (answer_foreseen t.before t.request t.acts)

  -- a history is short, and its frames are few, counted and foreseen
  pub short_and_few : ShortAndFew meaning gives
  short_and_few c woke p q ts wakes history =
      let m = meaning c in
      let up = acts_wake meaning gives c p.chip woke wakes.follows wakes.acts in
      let ready = ready_by m (reset_value m.config.make 8) (meaning p.chip) up in
      let began = wake_low meaning gives c p.chip woke wakes.follows wakes.acts in
      let acts = history_acts meaning gives p q ts history in
      let low = subst (λ k. EachLow k (acts_of ts)) up.same.config
      (acts_low meaning gives p.chip q.chip (acts_of ts) acts up.awake) in
      let first = first_frame meaning gives c p.chip global_reset (set_up m.config) woke wakes.follows wakes.acts in
      let n = meaning first.after in
      let facts = wake_facts meaning gives c first.after first.exchange first.one first.frame in
      let zero_fits : CountsFit n =
      record { frames = omega (arith, facts.frames); clocks = omega (arith, facts.clocks) } in
      let all = acts_joined meaning gives first.after p.chip q.chip first.rest (acts_of ts) first.more acts in
      let rises = acts_counted meaning gives first.after q.chip (first.rest ++ acts_of ts) all facts.awake zero_fits in
      let same_frames : sum_by frames_in (drop 1 woke ++ acts_of ts) ≡ sum_by frames_in (first.rest ++ acts_of ts) =
      ap (λ w. sum_by frames_in (drop 1 w ++ acts_of ts)) first.all in
      let same_low : sum_by low_in (drop 1 woke ++ acts_of ts) ≡ sum_by low_in (first.rest ++ acts_of ts) =
      ap (λ w. sum_by low_in (drop 1 w ++ acts_of ts)) first.all in
      record {
        since_wake = omega (arith, rises.frames, facts.frames, same_frames);
        low_since_wake = omega (arith, rises.clocks, facts.clocks, same_low);
        exactly = exactly m.config.clock;
        short = All-weaker (λ act. low_in act ≤ most_low m.config) (λ act. IsShort m.config (low_in act))
            (λ act. short_by m.config (low_in act)) (woke ++ acts_of ts)
            (All-append (λ act. low_in act ≤ most_low m.config) woke (acts_of ts) began.low low);
        counted = acts_counted meaning gives p.chip q.chip (acts_of ts) acts up.awake began.fit;
        frames = sums_agree meaning gives (λ t. t.traffic.frames) frames_in
            (λ p q t serves. ap (λ r. r.frames) (served_traffic meaning gives p q t serves)) p q ts history;
        clocks = sums_agree meaning gives (λ t. t.traffic.clocks) low_in
            (λ p q t serves. ap (λ r. r.clocks) (served_traffic meaning gives p q t serves)) p q ts history;
        few = each_served meaning gives (λ t. IsFewest m.config t.request t.traffic.frames) m.config served_few p q ts
            ready up.same.config history;
        lawful = each_served meaning gives (λ t. OnOk t.answer (IsSplitInto m.config t.request t.traffic.frames))
            m.config served_split p q ts ready up.same.config history;
        foreseen = each_served meaning gives (λ t. IsForeseen t.acts t.answer) m.config served_foreseen p q ts ready
            up.same.config history;
      }
    where
      served_few : (p q : Woken X) (t : Transaction) → IsReady (meaning p.chip)
          → (meaning p.chip).config ≡ (meaning c).config → Serves meaning gives p t q
          → IsFewest (meaning c).config t.request t.traffic.frames
      served_few p q t ready same serves =
          subst (λ k. IsFewest k t.request t.traffic.frames) same
          (judged_few (refusal (meaning p.chip) p.lost t.request) p q t serves.judged)

      served_split : (p q : Woken X) (t : Transaction) → IsReady (meaning p.chip)
          → (meaning p.chip).config ≡ (meaning c).config → Serves meaning gives p t q
          → OnOk t.answer (IsSplitInto (meaning c).config t.request t.traffic.frames)
      served_split p q t ready same serves =
          subst (λ k. OnOk t.answer (IsSplitInto k t.request t.traffic.frames)) same
          (judged_split meaning gives (refusal (meaning p.chip) p.lost t.request) p q t serves.judged)

      served_foreseen : (p q : Woken X) (t : Transaction) → IsReady (meaning p.chip)
          → (meaning p.chip).config ≡ (meaning c).config → Serves meaning gives p t q → IsForeseen t.acts t.answer
      served_foreseen p q t ready same serves =
          judged_foreseen (refusal (meaning p.chip) p.lost t.request) p q t
          (λ e. first_of_port (tests p.lost (size (meaning p.chip).config) (refreshed (meaning p.chip)) t.request) e
          (tests_below p.lost (size (meaning p.chip).config) (refreshed (meaning p.chip)) t.request)) serves.judged
