-- What serving a list of calls promises. Assumes nothing.
use Rattle.std.specs.Prelude.{◌≡◌, ℕ, List, [], ◌∷◌, ◌++◌, map, replicate}
use Rattle.chip.specs.Meaning.{Meaning}
use Rattle.chip.specs.Sent.{Event, Answer}
use Rattle.port.specs.Requests.{Request, requested}
use Rattle.port.specs.Serves.{Woken, Transaction, Serves}
use Rattle.port.specs.declared.traffic.Traffic.{Traffic}
use Rattle.runs.specs.Histories.{History, bytes_brought}
use Rattle.runs.specs.declared.serving.Call.{Call}
use Rattle.runs.specs.declared.serving.Response.{Response}

-- what a call asks for, and the buffer that it begins with
pub record Asked : Type 0 where
  pub request : Request
  pub before : List ℕ

abbrev pub asked : Call → Asked
asked call = record { request = requested call.request call.room; before = replicate call.room 0 }

abbrev pub asked_in : Transaction → Asked
asked_in t = record { request = t.request; before = t.before }

-- what comes back: the answer, the traffic, and the bytes that were read
pub record Came : Type 0 where
  pub answer : Answer
  pub traffic : Traffic
  pub bytes : List ℕ

abbrev pub came : Response → Came
came r = record { answer = r.answer; traffic = r.traffic; bytes = r.bytes.items }

abbrev pub came_in : Transaction → Came
came_in t = record { answer = t.answer; traffic = t.traffic; bytes = bytes_brought t }

-- a call was served, and its response put behind those that were there
pub record ServesOne {X : Type 0} (meaning : X → Meaning) (gives : X → Event → X → Type 0) (p : Woken X)
    (call : Call) (old new : List Response) (q : Woken X) : Type 0 where
  pub transaction : Transaction
  pub serves : Serves meaning gives p transaction q
  pub call_is : asked_in transaction ≡ asked call
  pub response : Response
  pub behind : new ≡ old ++ response ∷ []
  pub response_is : came response ≡ came_in transaction

-- these calls were served one after another, and their responses put behind those that were there
pub record ServesAll {X : Type 0} (meaning : X → Meaning) (gives : X → Event → X → Type 0) (p : Woken X)
    (list : List Call) (old new : List Response) (q : Woken X) : Type 0 where
  pub transactions : List Transaction
  pub history : History meaning gives p transactions q
  pub calls : map asked_in transactions ≡ map asked list
  pub added : List Response
  pub behind : new ≡ old ++ added
  pub responses : map came added ≡ map came_in transactions
  -- whatever was done before goes on by this
  pub goes_on : (start : Woken X) (before : List Transaction) → History meaning gives start before p
      → History meaning gives start (before ++ transactions) q
