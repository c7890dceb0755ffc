-- Twin ports answer alike. Assumes nothing.
use Rattle.std.specs.Prelude.{◌≡◌, ◌≢◌, ℕ, ◌<◌, ◌≤◌, Bool, true, false, List, map, filter, All, Contains, IsSome, Some}
use Rattle.chip.specs.Meaning.{Meaning, Lawful, size}
use Rattle.chip.specs.Runs.{Does}
use Rattle.chip.specs.Sent.{Event, Answer}
use Rattle.register.specs.Codes.{coverage_of}
use Rattle.port.specs.Requests.{Request, read, write, fill, latency_type, coverage, register, reset}
use Rattle.port.specs.Serves.{Woken, Transaction}
use Rattle.runs.specs.Histories.{History, IsFresh, refusal_number, count_read, bytes_brought}
use Rattle.runs.specs.LastWrites.{EachWith}
use Rattle.runs.specs.Scoreboards.{Scoreboard, blank, address_read}

-- latency types and register reads are left out of the matching
abbrev pub is_matched : Request → Bool
is_matched (read a n) = true
is_matched (write a d mask) = true
is_matched (fill a n) = true
is_matched (latency_type v) = false
is_matched (coverage v) = true
is_matched (register v) = false
is_matched reset = true

abbrev pub matched : List Transaction → List Transaction
matched ts = filter (λ t. is_matched t.request) ts

-- what a caller sees of a transaction: the answer and the bytes read
pub record Seen : Type 0 where
  pub answer : Answer
  pub bytes : List ℕ

abbrev pub seen : Transaction → Seen
seen t = record { answer = t.answer; bytes = bytes_brought t }

-- the scoreboard has each byte that is read
abbrev pub IsKnown : Scoreboard → Transaction → Type 0
IsKnown board t = (i : ℕ) → i < count_read t → IsSome (board (address_read t.request i))

-- the premises on one of the two: no request is answered by 19, and each byte read is known
pub record IsTame (m : Meaning) (ts : List Transaction) : Type 0 where
  pub none_lost : All (λ t. refusal_number t.answer ≢ Some 19) ts
  pub known : EachWith IsKnown m.refreshes blank ts

-- the premises on both
pub record AreTwins (m : Meaning) (ts : List Transaction) (n : Meaning) (us : List Transaction) : Type 0 where
  pub sizes : size m.config ≡ size n.config
  pub requests : map (λ t. t.request) (matched ts) ≡ map (λ t. t.request) (matched us)
  -- each coverage that there is, and that is in the list, refreshes the same addresses
  pub coverages : (v : ℕ) → Contains (map (λ t. t.request) ts) (coverage v) → v ≤ 7
      → (x : ℕ) → m.refreshes (coverage_of v) x ≡ n.refreshes (coverage_of v) x
  pub first : IsTame m ts
  pub second : IsTame n us

-- any two ports that have just been woken, of which the second is known by what its chip means alone: whatever their
-- chips, makes, clocks, layers, latency types, register reads and latencies
abbrev pub TwinPortsAnswerAlike : {X : Type 0} → (X → Meaning) → (X → Event → X → Type 0) → Type 0
TwinPortsAnswerAlike {X} meaning gives =
    (p q : Woken X) (ts : List Transaction) (p' q' : Woken Meaning) (us : List Transaction)
    → IsFresh meaning gives p → History meaning gives p ts q
    → Lawful p'.chip → IsFresh (λ m. m) Does p' → History (λ m. m) Does p' us q'
    → AreTwins (meaning p.chip) ts p'.chip us
    → map seen (matched ts) ≡ map seen (matched us)

-- a port, as what its chip means
abbrev pub meant : {X : Type 0} → (X → Meaning) → Woken X → Woken Meaning
meant meaning p = record { chip = meaning p.chip; lost = p.lost }

-- a port that has just been woken, and a history, are so by what the chip means alone
pub record IsMeant {X : Type 0} (meaning : X → Meaning) (gives : X → Event → X → Type 0) : Type 0 where
  pub fresh : (p : Woken X) → IsFresh meaning gives p → IsFresh (λ m. m) Does (meant meaning p)
  pub history : (p q : Woken X) (ts : List Transaction) → History meaning gives p ts q
      → History (λ m. m) Does (meant meaning p) ts (meant meaning q)
