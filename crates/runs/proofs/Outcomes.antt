-- What a request comes to, where no strobe was lost: what was done is its plan, the answer, and the coverage after it.
use Rattle.std.proofs.Common.{◌≡◌, ◌≢◌, ℕ, Bool, true, false, List, [], ◌∷◌, map, Some, Ok, sym, refl, ap, ◌∙◌, subst}
use Rattle.std.specs.Prelude.{All, is_err}
use Rattle.std.proofs.lemmas.Bool.{or_parts, cond-true, cond-false, false_from_ne_true, MatchBool-at_false}
use Rattle.std.proofs.lemmas.List.Elements.{All-from_recursion, All-head, All-tail, All-nil, All-cons}
use Rattle.register.specs.Codes.{coverage_of}
use Rattle.register.specs.Registers.{mr4, mr4_value}
use Rattle.register.specs.declared.fields.Coverage.{Coverage}
use Rattle.register.specs.declared.fields.Coverage.TheVariants.{All as Full}
use Rattle.register.proofs.Bits.{writes_mr4}
use Rattle.chip.specs.Meaning.{Meaning, coverage}
use Rattle.chip.specs.Sent.{Sent, read, write, register_read, register_write, global_reset, Event, Answer}
use Rattle.chip.specs.Taken.{reset_value, answer_by, is_answered}
use Rattle.chip.specs.declared.bus_frame.Reply.TheVariants.{Done}
use Rattle.chip.specs.declared.config.Config.{Config}
use Rattle.chip.specs.declared.state.Phase.TheVariants.{Awake}
use Rattle.chip.specs.declared.state.State.{State}
use Rattle.port.specs.Acts.{Act, exchanged, pulsed, IsAct, Acts, done, next, task_of, is_lost, any_lost, Follows}
use Rattle.port.specs.Answers.{answer_in, last_answer}
use Rattle.port.specs.Plans.{Task, send, pulse, plan}
use Rattle.port.specs.Requests as request
use Rattle.port.specs.Requests.{Request}
use Rattle.port.specs.Serves.{Woken, Transaction, Performs}
use Rattle.runs.specs.Histories.{IsFresh, refusal_number}
use Rattle.runs.specs.Twins.{is_matched}
use Rattle.port.specs.Carried.{set_by}
use Rattle.port.proofs.Frames.{frame_facts, pulse_facts}
use Rattle.port.proofs.PlanTasks.{each_read, each_write, each_fill}
use Rattle.port.proofs.Ready.{act_same, act_awake, acts_wake}

-- where no act is lost, what was done is the whole plan
whole_plan : (tasks : List Task) (acts : List Act) → Follows tasks acts → any_lost acts ≡ false
    → map task_of acts ≡ tasks
whole_plan [] acts is none = ap (map task_of) is
whole_plan (task ∷ tasks) [] never none = absurd never
whole_plan (task ∷ tasks) (act ∷ rest) (first, more) none =
    let (here, later) = or_parts (is_lost act) (any_lost rest) none in
    let tail = whole_plan tasks rest (MatchBool-at_false _ _ here more) later in
    λ i. first i ∷ tail i

-- ---- MR4

-- what MR4 holds after a task, where it held this value
abbrev mr4_by : Config → Task → ℕ → ℕ
mr4_by k (send f) old = set_by f 4 old
mr4_by k (pulse n) old = reset_value k.make 4

-- after one task after another
abbrev mr4_after : Config → List Task → ℕ → ℕ
mr4_after k [] old = old
mr4_after k (task ∷ rest) old = mr4_after k rest (mr4_by k task old)

-- a task that leaves MR4
abbrev LeavesMr4 : Config → Task → Type 0
LeavesMr4 k task = (old : ℕ) → mr4_by k task old ≡ old

-- tasks of which each leaves MR4 leave it
all_leave : (k : Config) (tasks : List Task) (old : ℕ) → All (LeavesMr4 k) tasks → mr4_after k tasks old ≡ old
all_leave k [] old all = refl
all_leave k (task ∷ rest) old all =
    all_leave k rest (mr4_by k task old) (All-tail (LeavesMr4 k) task rest all)
    ∙ All-head (LeavesMr4 k) task rest all old

-- and keep the coverage
all_keep : (k : Config) (tasks : List Task) (old : ℕ) → All (LeavesMr4 k) tasks
    → (mr4 (mr4_after k tasks old)).coverage ≡ (mr4 old).coverage
all_keep k tasks old all = ap (λ v. (mr4 v).coverage) (all_leave k tasks old all)

-- a coverage that is written is the one that MR4 has
written : (k : Config) (c : Coverage) → (mr4 (mr4_value k.clock.wl c)).coverage ≡ c
written k c = ap (λ x. x.coverage) (writes_mr4 k.clock.wl c (mr4_value k.clock.wl c) refl).means

-- the coverage that a request sets, else the one before it
abbrev pub coverage_by : Request → Coverage → Coverage
coverage_by (request.coverage v) old = coverage_of v
coverage_by request.reset old = Full
coverage_by _ old = old

-- the plan of a request sets that coverage
plan_coverage : (k : Config) (s : State) (q : Request)
    → (mr4 (mr4_after k (plan k s q) s.mr4)).coverage ≡ coverage_by q (mr4 s.mr4).coverage
plan_coverage k s (request.read a n) = all_keep k _ s.mr4 (each_read (LeavesMr4 k) k s a n (λ piece old. refl))
plan_coverage k s (request.write a d mask) =
    all_keep k _ s.mr4 (each_write (LeavesMr4 k) k s a d mask (λ piece old. refl))
plan_coverage k s (request.fill a n) =
    all_keep k _ s.mr4 (each_fill (LeavesMr4 k) k s a n (λ v old. refl) (λ b old. refl))
plan_coverage k s (request.latency_type v) = refl
plan_coverage k s (request.coverage v) = written k (coverage_of v)
plan_coverage k s (request.register r) = refl
plan_coverage k s request.reset = written k Full

-- ---- answers

-- a task that is not answered with a register
abbrev IsDone : Task → Type 0
IsDone (send (register_read r)) = ⊥
IsDone _ = Unit {0}

-- no request that is matched reads a register
plan_done : (k : Config) (s : State) (q : Request) → is_matched q ≡ true → All IsDone (plan k s q)
plan_done k s (request.read a n) is = each_read IsDone k s a n (λ piece. tt)
plan_done k s (request.write a d mask) is = each_write IsDone k s a d mask (λ piece. tt)
plan_done k s (request.fill a n) is = each_fill IsDone k s a n (λ v. tt) (λ b. tt)
plan_done k s (request.latency_type v) is = cc
plan_done k s (request.coverage v) is = All-cons IsDone _ [] tt (All-nil IsDone)
plan_done k s (request.register r) is = cc
plan_done k s request.reset is = All-from_recursion IsDone (plan k s request.reset) (tt, (tt, (tt, tt)))

-- an act that is answered with no register
abbrev AnswersDone : Act → Type 0
AnswersDone act = answer_in act ≡ Ok Done

-- the last answer of acts that are all answered so
last_done : (acts : List Act) → All AnswersDone acts → last_answer acts ≡ Ok Done
last_done [] all = refl
last_done (act ∷ []) all = All-head AnswersDone act [] all
last_done (act ∷ b ∷ rest) all = last_done (b ∷ rest) (All-tail AnswersDone act (b ∷ rest) all)

-- a frame that is not lost, and reads no register, is answered so
frame_done : (k : Config) (s : State) (there : Bool) (f : Sent) (r : Answer) → r ≡ answer_by k s there f
    → is_err r ≡ false → IsDone (send f) → r ≡ Ok Done
frame_done k s true (read b a n) r is found not_register = is
frame_done k s true (write b a d mask) r is found not_register = is
frame_done k s true (register_read n) r is found not_register = absurd not_register
frame_done k s true (register_write n v) r is found not_register = is
frame_done k s true global_reset r is found not_register = is
frame_done k s false f r is found not_register = let e : is_err r ≡ true = ap is_err is in cc

-- ---- what was done

module _ {X : Type 0} (meaning : X → Meaning) (gives : X → Event → X → Type 0) where
  -- an act leaves in MR4 what its task leaves there
  act_mr4 : (c d : X) (act : Act) → (meaning c).state.phase ≡ Awake → IsAct meaning gives c act d
      → (meaning d).state.mr4 ≡ mr4_by (meaning c).config (task_of act) (meaning c).state.mr4
  act_mr4 c d (exchanged x) awake one = (frame_facts meaning gives c d x one awake).mr4
  act_mr4 c d (pulsed n) awake one = (pulse_facts meaning gives c d n one).mr4

  -- and so do acts
  acts_mr4 : (c d : X) (acts : List Act) → (meaning c).state.phase ≡ Awake → Acts meaning gives c acts d
      → (meaning d).state.mr4 ≡ mr4_after (meaning c).config (map task_of acts) (meaning c).state.mr4
  acts_mr4 c d [] awake done = refl
  acts_mr4 c d (act ∷ rest) awake (next {d = e} one more) =
      let same = act_same meaning gives c e act one awake in
      let is = act_mr4 c e act awake one in
      acts_mr4 e d rest (act_awake meaning gives c e act one awake) more
      ∙ (λ i. mr4_after (same.config i) (map task_of rest) (is i))

  -- an act that is not lost, and reads no register, is answered so
  act_done : (c d : X) (act : Act) → (meaning c).state.phase ≡ Awake → IsAct meaning gives c act d
      → is_lost act ≡ false → IsDone (task_of act) → AnswersDone act
  act_done c d (exchanged x) awake one found not_register =
      frame_done (meaning c).config (meaning c).state (is_answered (meaning d) x.frame) x.frame x.answer
      (frame_facts meaning gives c d x one awake).answer found not_register
  act_done c d (pulsed n) awake one found not_register = refl

  -- and so are acts
  acts_done : (c d : X) (acts : List Act) → (meaning c).state.phase ≡ Awake → Acts meaning gives c acts d
      → any_lost acts ≡ false → All IsDone (map task_of acts) → All AnswersDone acts
  acts_done c d [] awake done found all = All-nil AnswersDone
  acts_done c d (act ∷ rest) awake (next {d = e} one more) found all =
      let (here, later) = or_parts (is_lost act) (any_lost rest) found in
      All-cons AnswersDone act rest
      (act_done c e act awake one here (All-head IsDone (task_of act) (map task_of rest) all))
      (acts_done e d rest (act_awake meaning gives c e act one awake) more later
      (All-tail IsDone (task_of act) (map task_of rest) all))

  module _ (c d : X) (t : Transaction) (one : Performs meaning gives c t d) where
    -- an answer that is not 19 is to a request that lost no strobe
    pub performed_found : refusal_number t.answer ≢ Some 19 → any_lost t.acts ≡ false
    performed_found not_19 =
        false_from_ne_true (any_lost t.acts) (λ lost. not_19 (ap refusal_number (one.answer ∙ cond-true _ _ _ lost)))

    module _ (awake : (meaning c).state.phase ≡ Awake) (found : any_lost t.acts ≡ false) where
      -- what was done is the whole plan
      performed_plan : map task_of t.acts ≡ plan (meaning c).config (meaning c).state t.request
      performed_plan = whole_plan _ t.acts one.follows found

      -- a request that is matched is answered so
      pub performed_answer : is_matched t.request ≡ true → t.answer ≡ Ok Done
      performed_answer is =
          let done = plan_done (meaning c).config (meaning c).state t.request is in
          let tasks = subst (All IsDone) (sym performed_plan) done in
          one.answer ∙ cond-false _ _ _ found ∙ last_done t.acts (acts_done c d t.acts awake one.acts found tasks)

      -- the coverage after it
      pub performed_coverage : coverage (meaning d).state ≡ coverage_by t.request (coverage (meaning c).state)
      performed_coverage =
          ap (λ v. (mr4 v).coverage)
          (acts_mr4 c d t.acts awake one.acts
          ∙ ap (λ tasks. mr4_after (meaning c).config tasks (meaning c).state.mr4) performed_plan)
          ∙ plan_coverage (meaning c).config (meaning c).state t.request

  -- a port that has just been woken has the full coverage
  pub fresh_coverage : (p : Woken X) → IsFresh meaning gives p → coverage (meaning p.chip).state ≡ Full
  fresh_coverage p (c, (acts, wakes)) =
      ap (λ v. (mr4 v).coverage) (acts_wake meaning gives c p.chip acts wakes.follows wakes.acts).mr4
      ∙ written (meaning c).config Full
