-- What lasts over acts and whole requests: what never changes of a chip, that it is awake, and its latencies.
use Rattle.std.proofs.Common.{◌≡◌, ℕ, MatchBool, Bool, true, false, cond, ◌==◌, List, [], ◌∷◌, Some, None, Option, sym, refl, ap, ◌∙◌, subst, arith}
use Rattle.std.specs.Prelude.{All, is_err}
use Rattle.std.proofs.lemmas.Bool.{eqb-true, MatchBool-at_false}
use Rattle.std.proofs.lemmas.List.Elements.{All-cons, All-nil, All-head, All-tail}
use Rattle.fault.specs.declared.Refusal.{Refusal}
use Rattle.register.specs.Codes.{coverage_of}
use Rattle.register.specs.Registers.{mr0, mr4, mr0_value, mr4_value}
use Rattle.register.specs.declared.fields.Coverage.TheVariants.{All as Everything}
use Rattle.register.specs.declared.fields.LatencyType.TheVariants.{Variable}
use Rattle.register.proofs.Bits.{writes_mr0, writes_mr4}
use Rattle.chip.specs.Chains.{Exchange, IsExchange}
use Rattle.chip.specs.Meaning.{Meaning, SameConfig}
use Rattle.chip.specs.Sent.{Event, Sent, read, write, register_read, register_write, global_reset}
use Rattle.chip.specs.Taken.{reset_value, answer_by, is_answered}
use Rattle.chip.specs.declared.config.Config.{Config}
use Rattle.chip.specs.declared.state.Phase.TheVariants.{Awake}
use Rattle.chip.specs.declared.state.State.{State}
use Rattle.port.specs.Acts.{Act, exchanged, pulsed, IsPulse, IsAct, Acts, done, next, task_of, is_lost, Follows}
use Rattle.port.specs.Plans.{Task, send, pulse, set, set_up, latency_type_of, plan}
use Rattle.port.specs.Requests.{Request, refusal}
use Rattle.port.specs.Requests as requests
use Rattle.port.specs.Serves.{Woken, Transaction, Serves, Judged}
use Rattle.port.specs.Wakes.{IsReady, wake_plan, Wakes}
use Rattle.port.specs.Carried.{set_by}
use Rattle.port.proofs.Frames.{FrameFacts, frame_facts, pulse_facts, wake_facts}
use Rattle.port.proofs.PlanTasks.{each_read, each_write, each_fill}

-- ---- what never changes

-- a chip has its own configuration
pub same_itself : (m : Meaning) → SameConfig m m
same_itself m = record { config = refl; refreshes = refl }

-- what never changes from one chip to the next, and on to a third
pub same_on : (l m n : Meaning) → SameConfig l m → SameConfig m n → SameConfig l n
same_on l m n first second =
    record { config = second.config ∙ first.config; refreshes = second.refreshes ∙ first.refreshes }

module _ {X : Type 0} (meaning : X → Meaning) (gives : X → Event → X → Type 0) where
  -- an act leaves it
  pub act_same : (c d : X) (act : Act) → IsAct meaning gives c act d → (meaning c).state.phase ≡ Awake
      → SameConfig (meaning c) (meaning d)
  act_same c d (exchanged x) one awake = (frame_facts meaning gives c d x one awake).same
  act_same c d (pulsed n) one awake = (pulse_facts meaning gives c d n one).same

  -- and leaves a chip awake
  pub act_awake : (c d : X) (act : Act) → IsAct meaning gives c act d → (meaning c).state.phase ≡ Awake
      → (meaning d).state.phase ≡ Awake
  act_awake c d (exchanged x) one awake = (frame_facts meaning gives c d x one awake).awake
  act_awake c d (pulsed n) one awake = (pulse_facts meaning gives c d n one).awake

  -- acts leave what never changes
  pub acts_same : (c d : X) (acts : List Act) → Acts meaning gives c acts d → (meaning c).state.phase ≡ Awake
      → SameConfig (meaning c) (meaning d)
  acts_same c d [] done awake = same_itself (meaning c)
  acts_same c d (act ∷ rest) (next {d = e} one more) awake =
      same_on (meaning c) (meaning e) (meaning d) (act_same c e act one awake)
      (acts_same e d rest more (act_awake c e act one awake))

  -- and leave a chip awake
  pub acts_awake : (c d : X) (acts : List Act) → Acts meaning gives c acts d → (meaning c).state.phase ≡ Awake
      → (meaning d).state.phase ≡ Awake
  acts_awake c d [] done awake = awake
  acts_awake c d (act ∷ rest) (next {d = e} one more) awake = acts_awake e d rest more (act_awake c e act one awake)

-- ---- acts that follow a plan

-- after an act, nothing where it is lost, and else acts that follow the rest of the plan
pub rest_by : (P : List Act → Type 0) (tasks : List Task) (rest : List Act) (lost : Bool) → P []
    → (Follows tasks rest → P rest) → MatchBool lost (rest ≡ []) (Follows tasks rest) → P rest
rest_by P tasks rest true none some on = subst P (sym on) none
rest_by P tasks rest false none some on = some on

-- what holds of each task of a plan holds of the task of each act that follows it
pub each_follows : (P : Task → Type 0) (tasks : List Task) (acts : List Act) → All P tasks → Follows tasks acts
    → All (λ act. P (task_of act)) acts
each_follows P [] acts all none =
    subst (λ more. All (λ act. P (task_of act)) more) (sym none) (All-nil (λ act. P (task_of act)))
each_follows P (task ∷ tasks) [] all never = absurd never
each_follows P (task ∷ tasks) (act ∷ rest) all (is, on) =
    All-cons (λ a. P (task_of a)) act rest (subst P (sym is) (All-head P task tasks all))
    (rest_by (λ more. All (λ a. P (task_of a)) more) tasks rest (is_lost act) (All-nil (λ a. P (task_of a)))
    (each_follows P tasks rest (All-tail P task tasks all)) on)

-- the first of these acts sends this frame, and the others follow the rest of the plan
pub record FirstFrame {X : Type 0} (meaning : X → Meaning) (gives : X → Event → X → Type 0) (c : X) (f : Sent)
    (tasks : List Task) (acts : List Act) (d : X) : Type 0 where
  pub exchange : Exchange
  pub after : X
  pub rest : List Act
  pub all : acts ≡ exchanged exchange ∷ rest
  pub frame : exchange.frame ≡ f
  pub one : IsExchange meaning gives c exchange after
  pub more : Acts meaning gives after rest d
  pub follows : is_err exchange.answer ≡ false → Follows tasks rest

-- the first of these acts is a pulse, and the others follow the rest of the plan
pub record FirstPulse {X : Type 0} (meaning : X → Meaning) (gives : X → Event → X → Type 0) (c : X) (n : ℕ)
    (tasks : List Task) (acts : List Act) (d : X) : Type 0 where
  pub after : X
  pub rest : List Act
  pub all : acts ≡ pulsed n ∷ rest
  pub one : IsPulse meaning gives c n after
  pub more : Acts meaning gives after rest d
  pub follows : Follows tasks rest

module _ {X : Type 0} (meaning : X → Meaning) (gives : X → Event → X → Type 0) where
  -- acts that follow a plan which begins with a frame begin with it
  pub first_frame : (c d : X) (f : Sent) (tasks : List Task) (acts : List Act) → Follows (send f ∷ tasks) acts
      → Acts meaning gives c acts d → FirstFrame meaning gives c f tasks acts d
  first_frame c d f tasks [] never all = absurd never
  first_frame c d f tasks (pulsed n ∷ rest) (is, on) all = cc
  first_frame c d f tasks (exchanged x ∷ rest) (is, on) (next {d = e} one more) = record {
    exchange = x;
    after = e;
    rest = rest;
    all = refl;
    frame = cc;
    one = one;
    more = more;
    follows = λ found. MatchBool-at_false (rest ≡ []) (Follows tasks rest) found on;
  }

  -- and so with a pulse
  pub first_pulse : (c d : X) (n : ℕ) (tasks : List Task) (acts : List Act) → Follows (pulse n ∷ tasks) acts
      → Acts meaning gives c acts d → FirstPulse meaning gives c n tasks acts d
  first_pulse c d n tasks [] never all = absurd never
  first_pulse c d n tasks (exchanged x ∷ rest) (is, on) all = cc
  first_pulse c d n tasks (pulsed k ∷ rest) (is, on) (next {d = e} one more) =
      let same : k ≡ n = cc in
      record {
        after = e;
        rest = rest;
        all = ap (λ i. pulsed i ∷ rest) same;
        one = subst (λ i. IsPulse meaning gives c i e) same one;
        more = more;
        follows = on;
      }

  -- no acts leave a chip
  pub no_acts : (c d : X) (acts : List Act) → Acts meaning gives c acts d → acts ≡ [] → c ≡ d
  no_acts c d [] done none = refl
  no_acts c d (act ∷ rest) all none = cc

-- a frame that needs no strobe is not lost
pub not_lost : (m n : Meaning) (x : Exchange) → FrameFacts m x n → is_answered n x.frame ≡ true
    → is_err x.answer ≡ false
not_lost m n x facts there =
    ap is_err (facts.answer ∙ ap (λ b. answer_by m.config m.state b x.frame) there)

-- ---- the two registers that are set up

-- what setting up leaves, with this value in MR8
pub record SetUp (m : Meaning) (v8 : ℕ) (n : Meaning) : Type 0 where
  pub same : SameConfig m n
  pub awake : n.state.phase ≡ Awake
  pub mr0 : n.state.mr0 ≡ mr0_value m.config.clock.lc Variable (mr0 (reset_value m.config.make 0)).drive
  pub mr4 : n.state.mr4 ≡ mr4_value m.config.clock.wl Everything
  pub mr8 : n.state.mr8 ≡ v8

-- the same from an earlier chip, with the same configuration
set_up_from : (l m : Meaning) (v8 : ℕ) (n : Meaning) → SameConfig l m → SetUp m v8 n → SetUp l v8 n
set_up_from l m v8 n first up = record {
  same = same_on l m n first up.same;
  awake = up.awake;
  mr0 = up.mr0 ∙ ap (λ k. mr0_value k.clock.lc Variable (mr0 (reset_value k.make 0)).drive) first.config;
  mr4 = up.mr4 ∙ ap (λ k. mr4_value k.clock.wl Everything) first.config;
  mr8 = up.mr8;
}

module _ {X : Type 0} (meaning : X → Meaning) (gives : X → Event → X → Type 0) where
  -- acts that follow the set-up of an awake chip leave it set up
  pub acts_set_up : (c d : X) (acts : List Act) → (meaning c).state.phase ≡ Awake
      → Follows (set_up (meaning c).config) acts → Acts meaning gives c acts d
      → SetUp (meaning c) (meaning c).state.mr8 (meaning d)
  acts_set_up c d acts awake follows all =
      let m = meaning c in
      let v0 = mr0_value m.config.clock.lc Variable (mr0 (reset_value m.config.make 0)).drive in
      let v4 = mr4_value m.config.clock.wl Everything in
      let first = first_frame meaning gives c d (register_write 0 v0) (set 4 v4 ∷ []) acts follows all in
      let n = meaning first.after in
      let one = frame_facts meaning gives c first.after first.exchange first.one awake in
      let on = first.follows (not_lost m n first.exchange one (ap (is_answered n) first.frame)) in
      let second = first_frame meaning gives first.after d (register_write 4 v4) [] first.rest on first.more in
      let o = meaning second.after in
      let two = frame_facts meaning gives first.after second.after second.exchange second.one one.awake in
      let end = second.follows (not_lost n o second.exchange two (ap (is_answered o) second.frame)) in
      subst (λ e. SetUp m m.state.mr8 (meaning e)) (no_acts meaning gives second.after d second.rest second.more end)
      (record {
        same = same_on m n o one.same two.same;
        awake = two.awake;
        mr0 = two.mr0 ∙ ap (λ f. set_by f 0 n.state.mr0) second.frame ∙ one.mr0
            ∙ ap (λ f. set_by f 0 m.state.mr0) first.frame;
        mr4 = two.mr4 ∙ ap (λ f. set_by f 4 n.state.mr4) second.frame;
        mr8 = two.mr8 ∙ ap (λ f. set_by f 8 n.state.mr8) second.frame ∙ one.mr8
            ∙ ap (λ f. set_by f 8 m.state.mr8) first.frame;
      })

  -- a chip that is set up after registers of the table
  set_up_after : (c e d : X) (acts : List Act) → SameConfig (meaning c) (meaning e) → (meaning e).state.phase ≡ Awake
      → (meaning e).state.mr8 ≡ reset_value (meaning c).config.make 8 → Follows (set_up (meaning c).config) acts
      → Acts meaning gives e acts d → SetUp (meaning c) (reset_value (meaning c).config.make 8) (meaning d)
  set_up_after c e d acts same awake line follows all =
      let up = acts_set_up e d acts awake (subst (λ k. Follows (set_up k) acts) (sym same.config) follows) all in
      set_up_from (meaning c) (meaning e) (reset_value (meaning c).config.make 8) (meaning d) same
      (subst (λ v. SetUp (meaning e) v (meaning d)) line up)

  -- so do those of a reset
  pub acts_reset : (c d : X) (acts : List Act)
      → Follows (pulse (meaning c).config.clock.trp ∷ set_up (meaning c).config) acts → Acts meaning gives c acts d
      → SetUp (meaning c) (reset_value (meaning c).config.make 8) (meaning d)
  acts_reset c d acts follows all =
      let k = (meaning c).config in
      let first = first_pulse meaning gives c d k.clock.trp (set_up k) acts follows all in
      let facts = pulse_facts meaning gives c first.after k.clock.trp first.one in
      set_up_after c first.after d first.rest facts.same facts.awake facts.mr8 first.follows first.more

  -- and those of a wake
  pub acts_wake : (c d : X) (acts : List Act) → Follows (wake_plan (meaning c).config) acts
      → Acts meaning gives c acts d → SetUp (meaning c) (reset_value (meaning c).config.make 8) (meaning d)
  acts_wake c d acts follows all =
      let first = first_frame meaning gives c d global_reset (set_up (meaning c).config) acts follows all in
      let facts = wake_facts meaning gives c first.after first.exchange first.one first.frame in
      set_up_after c first.after d first.rest facts.same facts.awake facts.mr8 (first.follows (ap is_err facts.answer))
      first.more

-- a chip that is set up is ready
pub ready_by : (m : Meaning) (v8 : ℕ) (n : Meaning) → SetUp m v8 n → IsReady n
ready_by m v8 n up =
    let lc = writes_mr0 m.config.clock.lc Variable (mr0 (reset_value m.config.make 0)).drive n.state.mr0 up.mr0 in
    let wl = writes_mr4 m.config.clock.wl Everything n.state.mr4 up.mr4 in
    record {
      awake = up.awake;
      reads = ap (λ r. r.lc) lc.means ∙ ap (λ k. k.clock.lc) (sym up.same.config);
      writes = ap (λ r. r.wl) wl.means ∙ ap (λ k. k.clock.wl) (sym up.same.config);
    }

-- ---- whole requests

-- a frame that leaves both latencies as the clock needs them
abbrev pub KeepsLatencies : Config → Sent → Type 0
KeepsLatencies k (register_write r v) = (r ≡ 0 → (mr0 v).lc ≡ k.clock.lc) × (r ≡ 4 → (mr4 v).wl ≡ k.clock.wl)
KeepsLatencies k _ = Unit {0}

-- the same of a task; a pulse sets the registers anew
abbrev Keeps : Config → Task → Type 0
Keeps k (send f) = KeepsLatencies k f
Keeps k (pulse n) = ⊥

-- a register that a value is written to, or not
set_or_not : (P : ℕ → Type 0) (q r v old : ℕ) → (q ≡ r → P v) → P old → P (set_by (register_write q v) r old)
set_or_not P q r v old new before = or_not (q == r) (λ hit. new (eqb-true q r hit))
  where
    or_not : (b : Bool) → (b ≡ true → P v) → P (cond b v old)
    or_not true written = written refl
    or_not false written = before

-- such a frame leaves the latency of reads
reads_kept : (k : Config) (f : Sent) (old : ℕ) → KeepsLatencies k f → (mr0 old).lc ≡ k.clock.lc
    → (mr0 (set_by f 0 old)).lc ≡ k.clock.lc
reads_kept k (read b a n) old keeps before = before
reads_kept k (write b a d mask) old keeps before = before
reads_kept k (register_read r) old keeps before = before
reads_kept k (register_write r v) old keeps before =
    set_or_not (λ x. (mr0 x).lc ≡ k.clock.lc) r 0 v old keeps.0 before
reads_kept k global_reset old keeps before = before

-- and that of writes
writes_kept : (k : Config) (f : Sent) (old : ℕ) → KeepsLatencies k f → (mr4 old).wl ≡ k.clock.wl
    → (mr4 (set_by f 4 old)).wl ≡ k.clock.wl
writes_kept k (read b a n) old keeps before = before
writes_kept k (write b a d mask) old keeps before = before
writes_kept k (register_read r) old keeps before = before
writes_kept k (register_write r v) old keeps before =
    set_or_not (λ x. (mr4 x).wl ≡ k.clock.wl) r 4 v old keeps.1 before
writes_kept k global_reset old keeps before = before

-- so it leaves a ready chip ready
pub frame_keeps : (m n : Meaning) (x : Exchange) → FrameFacts m x n → KeepsLatencies m.config x.frame → IsReady m
    → IsReady n
frame_keeps m n x facts keeps ready = record {
  awake = facts.awake;
  reads = ap (λ v. (mr0 v).lc) facts.mr0 ∙ reads_kept m.config x.frame m.state.mr0 keeps ready.reads
      ∙ ap (λ k. k.clock.lc) (sym facts.same.config);
  writes = ap (λ v. (mr4 v).wl) facts.mr4 ∙ writes_kept m.config x.frame m.state.mr4 keeps ready.writes
      ∙ ap (λ k. k.clock.wl) (sym facts.same.config);
}

module _ {X : Type 0} (meaning : X → Meaning) (gives : X → Event → X → Type 0) where
  -- the same of an act
  act_keeps : (c d : X) (act : Act) → IsAct meaning gives c act d → Keeps (meaning c).config (task_of act)
      → IsReady (meaning c) → IsReady (meaning d)
  act_keeps c d (exchanged x) one keeps ready =
      frame_keeps (meaning c) (meaning d) x (frame_facts meaning gives c d x one ready.awake) keeps ready
  act_keeps c d (pulsed n) one never ready = absurd never

  -- and of acts
  acts_keep : (c d : X) (acts : List Act) → Acts meaning gives c acts d
      → All (λ act. Keeps (meaning c).config (task_of act)) acts → IsReady (meaning c) → IsReady (meaning d)
  acts_keep c d [] done keep ready = ready
  acts_keep c d (act ∷ rest) (next {d = e} one more) keep ready =
      let k = (meaning c).config in
      let same = act_same meaning gives c e act one ready.awake in
      acts_keep e d rest more
      (subst (λ j. All (λ a. Keeps j (task_of a)) rest) (sym same.config)
      (All-tail (λ a. Keeps k (task_of a)) act rest keep))
      (act_keeps c e act one (All-head (λ a. Keeps k (task_of a)) act rest keep) ready)

-- ---- the plan of each request but a reset

-- the plan keeps the latencies
abbrev PlanKeeps : Config → State → Request → Type 0
PlanKeeps k s q = All (Keeps k) (plan k s q)

-- of a read
read_keeps : (k : Config) (s : State) (a n : ℕ) → PlanKeeps k s (requests.read a n)
read_keeps k s a n = each_read (Keeps k) k s a n (λ piece. tt)

-- of a write
write_keeps : (k : Config) (s : State) (a : ℕ) (d mask : List ℕ) → PlanKeeps k s (requests.write a d mask)
write_keeps k s a d mask = each_write (Keeps k) k s a d mask (λ piece. tt)

-- of a fill
fill_keeps : (k : Config) (s : State) (a n : ℕ) → PlanKeeps k s (requests.fill a n)
fill_keeps k s a n =
    each_fill (Keeps k) k s a n (λ v. (λ zero. absurd (omega arith), λ four. absurd (omega arith))) (λ b. tt)

-- of a latency type: MR0 gets the latency of the clock
type_keeps : (k : Config) (s : State) (v : ℕ) → PlanKeeps k s (requests.latency_type v)
type_keeps k s v =
    let value = mr0_value k.clock.lc (latency_type_of v) (mr0 s.mr0).drive in
    let means = (writes_mr0 k.clock.lc (latency_type_of v) (mr0 s.mr0).drive value refl).means in
    All-cons (Keeps k) (set 0 value) [] (λ zero. ap (λ r. r.lc) means, λ four. absurd (omega arith)) (All-nil (Keeps k))

-- of a coverage: MR4 gets the latency of the clock
coverage_keeps : (k : Config) (s : State) (v : ℕ) → PlanKeeps k s (requests.coverage v)
coverage_keeps k s v =
    let value = mr4_value k.clock.wl (coverage_of v) in
    let means = (writes_mr4 k.clock.wl (coverage_of v) value refl).means in
    All-cons (Keeps k) (set 4 value) [] (λ zero. absurd (omega arith), λ four. ap (λ r. r.wl) means) (All-nil (Keeps k))

-- of a register read
register_keeps : (k : Config) (s : State) (r : ℕ) → PlanKeeps k s (requests.register r)
register_keeps k s r = All-cons (Keeps k) (send (register_read r)) [] tt (All-nil (Keeps k))

module _ {X : Type 0} (meaning : X → Meaning) (gives : X → Event → X → Type 0) where
  -- what follows such a plan leaves a ready chip ready
  kept_by : (c d : X) (q : Request) (acts : List Act) → PlanKeeps (meaning c).config (meaning c).state q
      → Follows (plan (meaning c).config (meaning c).state q) acts → Acts meaning gives c acts d
      → IsReady (meaning c) → IsReady (meaning d)
  kept_by c d q acts keep follows all ready =
      acts_keep meaning gives c d acts all
      (each_follows (Keeps (meaning c).config) (plan (meaning c).config (meaning c).state q) acts keep follows) ready

  -- what follows the plan of a request leaves a ready chip ready
  pub plan_ready : (c d : X) (q : Request) (acts : List Act)
      → Follows (plan (meaning c).config (meaning c).state q) acts → Acts meaning gives c acts d
      → IsReady (meaning c) → IsReady (meaning d)
  plan_ready c d (requests.read a n) acts =
      kept_by c d (requests.read a n) acts (read_keeps (meaning c).config (meaning c).state a n)
  plan_ready c d (requests.write a bytes mask) acts =
      kept_by c d (requests.write a bytes mask) acts (write_keeps (meaning c).config (meaning c).state a bytes mask)
  plan_ready c d (requests.fill a n) acts =
      kept_by c d (requests.fill a n) acts (fill_keeps (meaning c).config (meaning c).state a n)
  plan_ready c d (requests.latency_type v) acts =
      kept_by c d (requests.latency_type v) acts (type_keeps (meaning c).config (meaning c).state v)
  plan_ready c d (requests.coverage v) acts =
      kept_by c d (requests.coverage v) acts (coverage_keeps (meaning c).config (meaning c).state v)
  plan_ready c d (requests.register r) acts =
      kept_by c d (requests.register r) acts (register_keeps (meaning c).config (meaning c).state r)
  plan_ready c d requests.reset acts = λ follows all ready.
      ready_by (meaning c) (reset_value (meaning c).config.make 8) (meaning d)
      (acts_reset meaning gives c d acts follows all)

  -- a request, refused or taken, leaves a ready chip ready
  judged_ready : (o : Option Refusal) (p q : Woken X) (t : Transaction) → IsReady (meaning p.chip)
      → Judged meaning gives o p t q → IsReady (meaning q.chip)
  judged_ready (Some e) p q t ready refuses = subst (λ w. IsReady (meaning w.chip)) (sym refuses.port) ready
  judged_ready None p q t ready (performs, lost) =
      plan_ready p.chip q.chip t.request t.acts performs.follows performs.acts ready

  -- nor does it change what never changes
  judged_same : (o : Option Refusal) (p q : Woken X) (t : Transaction) → IsReady (meaning p.chip)
      → Judged meaning gives o p t q → SameConfig (meaning p.chip) (meaning q.chip)
  judged_same (Some e) p q t ready refuses =
      subst (λ w. SameConfig (meaning p.chip) (meaning w.chip)) (sym refuses.port) (same_itself (meaning p.chip))
  judged_same None p q t ready (performs, lost) =
      acts_same meaning gives p.chip q.chip t.acts performs.acts ready.awake

  -- a request leaves a ready chip ready
  pub ready_kept : (p q : Woken X) (t : Transaction) → IsReady (meaning p.chip) → Serves meaning gives p t q
      → IsReady (meaning q.chip)
  ready_kept p q t ready serves =
      judged_ready (refusal (meaning p.chip) p.lost t.request) p q t ready serves.judged

  -- and leaves what never changes
  pub config_kept : (p q : Woken X) (t : Transaction) → IsReady (meaning p.chip) → Serves meaning gives p t q
      → SameConfig (meaning p.chip) (meaning q.chip)
  config_kept p q t ready serves =
      judged_same (refusal (meaning p.chip) p.lost t.request) p q t ready serves.judged

  -- a chip that was woken is ready
  pub woken_ready : (c : X) (acts : List Act) (p : Woken X) → Wakes meaning gives c acts p → IsReady (meaning p.chip)
  woken_ready c acts p wakes =
      ready_by (meaning c) (reset_value (meaning c).config.make 8) (meaning p.chip)
      (acts_wake meaning gives c p.chip acts wakes.follows wakes.acts)
