-- A read or a write that is answered took as many frames as the longest pieces of its range, which are a lawful split.
use Rattle.std.proofs.Common.{◌≡◌, ℕ, Bool, true, false, if◌then◌else◌, List, [], ◌∷◌, length, map, sum_by, Some, None, Ok, Err, Option, sym, refl, ap, ◌∙◌, subst, arith}
use Rattle.std.specs.Prelude.{MatchBool, OnOk}
use Rattle.std.proofs.lemmas.Bool.{or_parts}
use Rattle.std.proofs.lemmas.List.Sums.{sum_by-cons}
use Rattle.fault.specs.Refusals.{fault_at}
use Rattle.fault.specs.declared.Fault.{Fault}
use Rattle.fault.specs.declared.Refusal.{Refusal}
use Rattle.fault.specs.declared.Refusal.TheVariants.{NoStrobe}
use Rattle.frame.specs.Pages.{page}
use Rattle.frame.specs.declared.span.Span.{Span}
use Rattle.chip.specs.Meaning.{Meaning}
use Rattle.chip.specs.Sent.{Event, Answer}
use Rattle.chip.specs.declared.config.Config.{Config}
use Rattle.chip.specs.declared.state.State.{State}
use Rattle.split.specs.Splits.{longest_first, rounded_from, rounded_to}
use Rattle.split.specs.declared.direction.Direction.{Direction}
use Rattle.split.specs.declared.direction.Direction.TheVariants.{Read, Write}
use Rattle.split.proofs.Longest.{length_pieces_from, lawful, takes_longest}
use Rattle.port.proofs.Pieces.{most_of, some_most}
use Rattle.port.specs.Acts.{Act, exchanged, pulsed, task_of, is_lost, any_lost, Follows}
use Rattle.port.specs.Answers.{frames_in, good_count, last_answer}
use Rattle.port.specs.Plans.{Task, send, pulse, pieces_of, read_piece, write_piece, plan}
use Rattle.port.specs.Requests.{Request, place, refusal}
use Rattle.port.specs.Requests as requests
use Rattle.port.specs.Serves.{Woken, Transaction, Judged}
use Rattle.runs.specs.Shorts.{IsSplit, IsSplitInto}

-- the frames of a task
abbrev task_frames : Task → ℕ
task_frames (send f) = 1
task_frames (pulse n) = 0

act_frames : (act : Act) → frames_in act ≡ task_frames (task_of act)
act_frames (exchanged x) = refl
act_frames (pulsed n) = refl

-- what follows a plan up to its end has its frames
frames_all : (tasks : List Task) (acts : List Act) → Follows tasks acts → any_lost acts ≡ false
    → sum_by frames_in acts ≡ sum_by task_frames tasks
frames_all [] acts none lost = ap (sum_by frames_in) none
frames_all (task ∷ tasks) [] never lost = absurd never
frames_all (task ∷ tasks) (act ∷ rest) (is, on) lost =
    let (here, later) = or_parts (is_lost act) (any_lost rest) lost in
    let follows = subst (λ b. MatchBool b (rest ≡ []) (Follows tasks rest)) here on in
    omega (
      arith,
      sum_by-cons frames_in act rest,
      sum_by-cons task_frames task tasks,
      act_frames act ∙ ap task_frames is,
      frames_all tasks rest follows later,
    )

-- a plan of one frame for each piece
one_each : (frame : Span → Task) (ps : List Span) → ((p : Span) → task_frames (frame p) ≡ 1)
    → sum_by task_frames (map frame ps) ≡ length ps
one_each frame [] one = refl
one_each frame (p ∷ ps) one =
    omega (arith, sum_by-cons task_frames (frame p) (map frame ps), one p, one_each frame ps one)

-- the longest pieces are a lawful split
longest_split : (d : Direction) (k : Config) (a n frames : ℕ) → frames ≡ length (pieces_of d k a n)
    → (lengths : List ℕ) × (IsSplit d k a n lengths × (length lengths ≡ frames))
longest_split d k a n frames is =
    let most = most_of d k in
    let from = rounded_from a in
    let to = rounded_to a n in
    let lengths = longest_first (page k.make) most from to in (
      lengths,
      (
        lawful (takes_longest k.make most (some_most d k) (omega arith)) from to
            (omega arith) (omega arith) (omega arith),
        sym (length_pieces_from from lengths) ∙ sym is,
      ),
    )

split_into : (k : Config) (s : State) (q : Request) (acts : List Act) → Follows (plan k s q) acts
    → any_lost acts ≡ false → IsSplitInto k q (sum_by frames_in acts)
split_into k s (requests.read a n) acts follows lost =
    longest_split Read k a n _
    (frames_all _ acts follows lost ∙ one_each read_piece (pieces_of Read k a n) (λ p. refl))
split_into k s (requests.write a bytes mask) acts follows lost =
    longest_split Write k a (length bytes) _
    (frames_all _ acts follows lost
    ∙ one_each (write_piece a bytes mask) (pieces_of Write k a (length bytes)) (λ p. refl))
split_into k s (requests.fill a n) acts follows lost = tt
split_into k s (requests.latency_type v) acts follows lost = tt
split_into k s (requests.coverage v) acts follows lost = tt
split_into k s (requests.register r) acts follows lost = tt
split_into k s requests.reset acts follows lost = tt

if_ok : (r : Answer) (P : Type 0) → P → OnOk r P
if_ok (Ok x) P p = p
if_ok (Err e) P p = tt

answered_split : (P : Type 0) (acts : List Act) (fault : Fault ℕ) → (any_lost acts ≡ false → P)
    → OnOk (if any_lost acts then Err fault else last_answer acts) P
answered_split P acts fault holds = by (any_lost acts) refl
  where
    by : (lost : Bool) → any_lost acts ≡ lost → OnOk (if lost then Err fault else last_answer acts) P
    by true is = tt
    by false is = if_ok (last_answer acts) P (holds is)

module _ {X : Type 0} (meaning : X → Meaning) (gives : X → Event → X → Type 0) where
  pub judged_split : (o : Option Refusal) (p q : Woken X) (t : Transaction) → Judged meaning gives o p t q
      → OnOk t.answer (IsSplitInto (meaning p.chip).config t.request t.traffic.frames)
  judged_split (Some e) p q t refuses =
      subst (λ r. OnOk r (IsSplitInto (meaning p.chip).config t.request t.traffic.frames)) (sym refuses.answer) tt
  judged_split None p q t (performs, lost) =
      let k = (meaning p.chip).config in
      subst (λ n. OnOk t.answer (IsSplitInto k t.request n)) (sym (ap (λ r. r.frames) performs.traffic))
      (subst (λ r. OnOk r (IsSplitInto k t.request (sum_by frames_in t.acts))) (sym performs.answer)
      (answered_split _ t.acts (fault_at (NoStrobe (good_count t.before t.request t.acts)) (place t.request))
      (split_into k (meaning p.chip).state t.request t.acts performs.follows)))
