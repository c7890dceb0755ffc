-- What is known of a chip over acts that follow a plan, one frame after another.
-- `gives` is what the chip itself says of an event, `meaning` what a value of it means.
use Rattle.std.proofs.Common.{◌≡◌, ℕ, ◌<◌, Bool, true, false, not, List, [], ◌∷◌, length, Ok, Err, sym, refl, ap, ◌∙◌, subst}
use Rattle.std.specs.Prelude.{MatchBool, is_err, slice_index}
use Rattle.chip.specs.Chains.{Exchange}
use Rattle.chip.specs.Meaning.{Meaning, size, refreshed, strobe_at, SameConfig}
use Rattle.chip.specs.Sent.{Sent, read, write, register_read, register_write, global_reset, Event, Answer, FitsBuffer, read_bytes}
use Rattle.chip.specs.Taken.{address, stored, is_answered, answer_by, Filled}
use Rattle.chip.specs.declared.config.Config.{Config}
use Rattle.chip.specs.declared.state.Phase.TheVariants.{Awake}
use Rattle.chip.specs.declared.state.State.{State}
use Rattle.frame.specs.declared.burst.Burst.{Burst}
use Rattle.port.specs.Acts.{Act, exchanged, pulsed, Acts, done, next, task_of, is_lost, Follows}
use Rattle.port.specs.Answers.{bytes_in}
use Rattle.port.specs.Plans.{Task, send, pulse}
use Rattle.port.specs.Carried.{set_by}
use Rattle.port.proofs.Frames.{FrameFacts, PulseFacts, frame_facts, pulse_facts}

-- ---- one frame

-- the bytes of a burst, as they are after the frame
pub record Fetches (m n : Meaning) (b : Burst) (a count : ℕ) (bytes : List ℕ) : Type 0 where
  pub long : length bytes ≡ count
  pub each : (i : ℕ) → i < count → slice_index bytes i ≡ n.byte (address m.config m.state b a i)

-- what a frame brings, by whether it is answered
abbrev pub Brings : Meaning → Meaning → Sent → Bool → List ℕ → Type 0
Brings m n (read b a count) there bytes = MatchBool there (Fetches m n b a count bytes) (bytes ≡ [])
Brings m n (write b a d mask) there bytes = bytes ≡ []
Brings m n (register_read r) there bytes = bytes ≡ []
Brings m n (register_write r v) there bytes = bytes ≡ []
Brings m n global_reset there bytes = bytes ≡ []

-- what an act that sends this frame does
pub record Effect (m : Meaning) (f : Sent) (act : Act) (n : Meaning) : Type 0 where
  pub same : SameConfig m n
  pub mr4 : n.state.mr4 ≡ set_by f 4 m.state.mr4
  pub mr8 : n.state.mr8 ≡ set_by f 8 m.state.mr8
  pub strobe : (a : ℕ) → strobe_at n a ≡ true → strobe_at m a ≡ true
  pub byte : (a : ℕ) → a < size m.config → strobe_at n a ≡ true → refreshed m a ≡ true → refreshed n a ≡ true
      → n.byte a ≡ stored m.config m.state f a (m.byte a)
  pub lost : is_lost act ≡ not (is_answered n f)
  pub brings : Brings m n f (is_answered n f) (bytes_in act)

-- a frame is lost where it is not answered
err_by : (k : Config) (s : State) (there : Bool) (f : Sent) → is_err (answer_by k s there f) ≡ not there
err_by k s true f = refl
err_by k s false f = refl

-- what is brought, by the answer and the buffer after it
brings_by : (m n : Meaning) (f : Sent) (there : Bool) (r : Answer) (old new : List ℕ) → FitsBuffer f old
    → r ≡ answer_by m.config m.state there f → Filled m.config m.state there f n.byte old new
    → Brings m n f there (read_bytes f r new)
brings_by m n (read b a c) true (Ok x) old new fits is filled =
    record { long = filled.long ∙ sym fits; each = filled.each }
brings_by m n (read b a c) true (Err x) old new fits is filled = cc
brings_by m n (read b a c) false (Ok x) old new fits is filled = cc
brings_by m n (read b a c) false (Err x) old new fits is filled = refl
brings_by m n (write b a d mask) there r old new fits is filled = refl
brings_by m n (register_read q) there r old new fits is filled = refl
brings_by m n (register_write q v) there r old new fits is filled = refl
brings_by m n global_reset there r old new fits is filled = refl

-- the effect of an exchange, by its own frame
own_effect : (m n : Meaning) (x : Exchange) → FitsBuffer x.frame x.before → FrameFacts m x n
    → Effect m x.frame (exchanged x) n
own_effect m n x fits facts =
    let there = is_answered n x.frame in
    record {
      same = facts.same;
      mr4 = facts.mr4;
      mr8 = facts.mr8;
      strobe = facts.strobe;
      byte = facts.byte;
      lost = ap is_err facts.answer ∙ err_by m.config m.state there x.frame;
      brings = brings_by m n x.frame there x.answer x.before x.after fits facts.answer facts.buffer;
    }

-- the same by the frame of its task
effect : (m n : Meaning) (x : Exchange) (f : Sent) → task_of (exchanged x) ≡ send f → FitsBuffer x.frame x.before
    → FrameFacts m x n → Effect m f (exchanged x) n
effect m n x f is fits facts =
    let same : x.frame ≡ f = cc in
    subst (λ g. Effect m g (exchanged x) n) same (own_effect m n x fits facts)

-- ---- one after another

-- from one meaning to another by these acts, which follow a plan: up to its end, or up to a frame that is lost
pub data Course : Meaning → List Task → List Act → Meaning → Type 0 where
  ended : {m : Meaning} → Course m [] [] m
  answered : {m n o : Meaning} {f : Sent} {act : Act} {tasks : List Task} {rest : List Act} → Effect m f act n
      → is_lost act ≡ false → Course n tasks rest o → Course m (send f ∷ tasks) (act ∷ rest) o
  unanswered : {m n : Meaning} {f : Sent} {act : Act} {tasks : List Task} → Effect m f act n → is_lost act ≡ true
      → Course m (send f ∷ tasks) (act ∷ []) n
  restarted : {m n o : Meaning} {k : ℕ} {tasks : List Task} {rest : List Act} → PulseFacts m n → Course n tasks rest o
      → Course m (pulse k ∷ tasks) (pulsed k ∷ rest) o

-- the one act of a plan of one frame
pub record IsAlone (m : Meaning) (f : Sent) (acts : List Act) (o : Meaning) : Type 0 where
  pub act : Act
  pub only : acts ≡ act ∷ []
  pub does : Effect m f act o

-- there is one, lost or not
pub alone : {m o : Meaning} {f : Sent} {acts : List Act} → Course m (send f ∷ []) acts o → IsAlone m f acts o
alone (answered {act = act} does found ended) = record { act = act; only = refl; does = does }
alone (unanswered {act = act} does lost) = record { act = act; only = refl; does = does }

module _ {X : Type 0} (meaning : X → Meaning) (gives : X → Event → X → Type 0) where
  -- a frame, and what follows it
  after_frame : (c d e : X) (f : Sent) (act : Act) (tasks : List Task) (rest : List Act) (gone : Bool)
      → is_lost act ≡ gone → Effect (meaning c) f act (meaning e) → MatchBool gone (rest ≡ []) (Follows tasks rest)
      → Acts meaning gives e rest d → (Follows tasks rest → Course (meaning e) tasks rest (meaning d))
      → Course (meaning c) (send f ∷ tasks) (act ∷ rest) (meaning d)
  after_frame c d e f act tasks rest false is does follows acts more = answered does is (more follows)
  after_frame c d e f act tasks [] true is does none done more = unanswered does is
  after_frame c d e f act tasks (y ∷ ys) true is does none acts more = cc

  -- acts of an awake chip that follow a plan
  pub course : (c d : X) (tasks : List Task) (acts : List Act) → (meaning c).state.phase ≡ Awake
      → Acts meaning gives c acts d → Follows tasks acts → Course (meaning c) tasks acts (meaning d)
  course c d [] [] awake done none = ended
  course c d [] (act ∷ rest) awake acts none = cc
  course c d (task ∷ tasks) [] awake acts none = absurd none
  course c d (send f ∷ tasks) (exchanged x ∷ rest) awake (next {d = e} one more) (is, follows) =
      let facts = frame_facts meaning gives c e x one awake in
      let does = effect (meaning c) (meaning e) x f is one.fits facts in
      after_frame c d e f (exchanged x) tasks rest (is_lost (exchanged x)) refl does follows more
      (course e d tasks rest facts.awake more)
  course c d (send f ∷ tasks) (pulsed k ∷ rest) awake acts (is, follows) = cc
  course c d (pulse k ∷ tasks) (exchanged x ∷ rest) awake acts (is, follows) = cc
  course c d (pulse k ∷ tasks) (pulsed j ∷ rest) awake (next {d = e} one more) (is, follows) =
      let same : j ≡ k = cc in
      let facts = pulse_facts meaning gives c e j one in
      subst (λ w. Course (meaning c) (pulse w ∷ tasks) (pulsed j ∷ rest) (meaning d)) same
      (restarted facts (course e d tasks rest facts.awake more follows))
