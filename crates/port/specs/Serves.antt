-- What a port promises of a request. Assumes nothing.
use Rattle.std.specs.Prelude.{◌≡◌, ℕ, Bool, List, [], Some, None, Err, Option}
use Rattle.chip.specs.Meaning.{Meaning}
use Rattle.chip.specs.Sent.{Event, Answer}
use Rattle.fault.specs.Refusals.{fault_at}
use Rattle.fault.specs.declared.Refusal.{Refusal}
use Rattle.port.specs.Acts.{Act, Acts, any_lost, Follows}
use Rattle.port.specs.Answers.{traffic_of, request_bytes, buffer_with, answer_of}
use Rattle.port.specs.Plans.{plan}
use Rattle.port.specs.Requests.{Request, FitsRequest, place, refusal}
use Rattle.port.specs.declared.served.Served.{Served}
use Rattle.port.specs.declared.traffic.Traffic.{Traffic}

-- a woken port: its chip, and whether it knows that the strobe is lost
pub record Woken (X : Type 0) : Type 0 where
  pub chip : X
  pub lost : Bool

-- one request: what was done to the chip, the answer, the traffic, and the caller's buffer before and after
pub record Transaction : Type 0 where
  pub request : Request
  pub before : List ℕ
  pub acts : List Act
  pub answer : Answer
  pub traffic : Traffic
  pub after : List ℕ

-- refused, with nothing changed
pub record Refuses {X : Type 0} (e : Refusal) (p : Woken X) (t : Transaction) (q : Woken X) : Type 0 where
  pub answer : t.answer ≡ Err (fault_at e (place t.request))
  pub port : q ≡ p
  pub acts : t.acts ≡ []
  pub traffic : t.traffic ≡ traffic_of []
  pub buffer : t.after ≡ t.before

-- taken: what was done follows the plan, and the answer, the traffic and the buffer are those of what was done
pub record Performs {X : Type 0} (meaning : X → Meaning) (gives : X → Event → X → Type 0)
    (c : X) (t : Transaction) (d : X) : Type 0 where
  pub acts : Acts meaning gives c t.acts d
  pub follows : Follows (plan (meaning c).config (meaning c).state t.request) t.acts
  pub answer : t.answer ≡ answer_of t.before t.request t.acts
  pub traffic : t.traffic ≡ traffic_of t.acts
  pub buffer : t.after ≡ buffer_with t.before (request_bytes t.request t.acts)

abbrev pub Judged : {X : Type 0} → (X → Meaning) → (X → Event → X → Type 0) → Option Refusal → Woken X → Transaction
    → Woken X → Type 0
Judged meaning gives (Some e) p t q = Refuses e p t q
Judged meaning gives None p t q = Performs meaning gives p.chip t q.chip × (q.lost ≡ any_lost t.acts)

-- a woken port came from p to q by a request
pub record Serves {X : Type 0} (meaning : X → Meaning) (gives : X → Event → X → Type 0)
    (p : Woken X) (t : Transaction) (q : Woken X) : Type 0 where
  pub fits : FitsRequest t.request t.before
  pub judged : Judged meaning gives (refusal (meaning p.chip) p.lost t.request) p t q

-- ---- the same of a call: by some acts

abbrev pub transaction : Request → List ℕ → List Act → Served → List ℕ → Transaction
transaction q old acts served new = record {
  request = q;
  before = old;
  acts = acts;
  answer = served.answer;
  traffic = served.traffic;
  after = new;
}

abbrev pub woken : {X : Type 0} → X → Bool → Woken X
woken c lost = record { chip = c; lost = lost }

-- a request that is taken was performed, with these buffers before and after
abbrev pub IsPerformed : {X : Type 0} → (X → Meaning) → (X → Event → X → Type 0) → X → Request → List ℕ → Served
    → List ℕ → X → Type 0
IsPerformed meaning gives c q old served new d =
    (acts : List Act) × Performs meaning gives c (transaction q old acts served new) d

-- a request was served
abbrev pub IsServed : {X : Type 0} → (X → Meaning) → (X → Event → X → Type 0) → Woken X → Request → List ℕ → Served
    → List ℕ → Woken X → Type 0
IsServed meaning gives p q old served new r =
    (acts : List Act) × Serves meaning gives p (transaction q old acts served new) r
