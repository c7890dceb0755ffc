-- Requests one after another to one woken port. Assumes nothing.
use Rattle.std.specs.Prelude.{ℕ, List, [], ◌∷◌, Some, None, Ok, Err, Option, take}
use Rattle.std.specs.Option.{unwrap_or}
use Rattle.fault.specs.Refusals.{details}
use Rattle.chip.specs.Meaning.{Meaning}
use Rattle.chip.specs.Sent.{Event, Answer}
use Rattle.port.specs.Acts.{Act}
use Rattle.port.specs.Requests.{Request, read, write, fill, latency_type, coverage, register, reset}
use Rattle.port.specs.Serves.{Woken, Transaction, Serves}
use Rattle.port.specs.Wakes.{Wakes}

-- from one port to another by these transactions, and nothing else
pub data History {X : Type 0} (meaning : X → Meaning) (gives : X → Event → X → Type 0) : Woken X → List Transaction
    → Woken X → Type 0 where
  begun : {p : Woken X} → History meaning gives p [] p
  onward : {p q r : Woken X} {t : Transaction} {rest : List Transaction} → Serves meaning gives p t q
      → History meaning gives q rest r → History meaning gives p (t ∷ rest) r

-- a port that has just been woken
abbrev pub IsFresh : {X : Type 0} → (X → Meaning) → (X → Event → X → Type 0) → Woken X → Type 0
IsFresh {X} meaning gives p = (c : X) × ((xs : List Act) × Wakes meaning gives c xs p)

-- the number of a refusal, if it is one
abbrev pub refusal_number : Answer → Option ℕ
refusal_number (Ok x) = None
refusal_number (Err e) = Some (details e.refusal).number

-- how many bytes of its buffer an answer has brought: all, or the good ones of a 19, or none
abbrev pub brought_by : Answer → ℕ → ℕ
brought_by (Ok x) n = n
brought_by (Err e) n = unwrap_or (details e.refusal).good 0

-- how many bytes a transaction has read
abbrev pub bytes_read : Request → Answer → ℕ
bytes_read (read a n) r = brought_by r n
bytes_read (fill a n) r = brought_by r n
bytes_read (write a d mask) r = 0
bytes_read (latency_type v) r = 0
bytes_read (coverage v) r = 0
bytes_read (register v) r = 0
bytes_read reset r = 0

abbrev pub count_read : Transaction → ℕ
count_read t = bytes_read t.request t.answer

-- these bytes
abbrev pub bytes_brought : Transaction → List ℕ
bytes_brought t = take (count_read t) t.after
