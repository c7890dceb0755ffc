-- What a port is asked for, and what refuses it. Assumes nothing.
use Rattle.std.specs.Prelude.{◌≡◌, ℕ, ◌+◌, Bool, not, List, [], ◌∷◌, length, Option, nat_le, nat_lt}
use Rattle.chip.specs.Meaning.{Meaning, size, refreshed}
use Rattle.chip.specs.Refused.{first_refusal}
use Rattle.fault.specs.declared.Refusal.{Refusal}
use Rattle.fault.specs.declared.Refusal.TheVariants.{StrobeStillLost, BadLength, BadFill, BadSetting, PastSize, BadMask, NotRefreshed}
use Rattle.frame.specs.Bursts.{base}
use Rattle.register.specs.Registers.{readable}
use Rattle.port.specs.Tests.{each_from, bad_length, bad_fill, bad_mask}
use Rattle.port.specs.declared.request.Request.{Request as Borrowed}
use Rattle.port.specs.declared.request.Request.TheVariants as borrowed

-- a request, with its data and mask as lists; a read and a fill have as many bytes as their buffer
pub data Request : Type 0 where
  read : ℕ → ℕ → Request
  write : ℕ → List ℕ → List ℕ → Request
  fill : ℕ → ℕ → Request
  latency_type : ℕ → Request
  coverage : ℕ → Request
  register : ℕ → Request
  reset : Request

abbrev pub requested : Borrowed → ℕ → Request
requested (borrowed.Read a) n = read a n
requested (borrowed.Write a d mask) n = write a d.now mask.now
requested (borrowed.Fill a) n = fill a n
requested (borrowed.LatencyType v) n = latency_type v
requested (borrowed.Coverage v) n = coverage v
requested (borrowed.Register r) n = register r
requested borrowed.Reset n = reset

-- a read and a fill have as many bytes as their buffer
abbrev pub FitsRequest : Request → List ℕ → Type 0
FitsRequest (read a n) buffer = n ≡ length buffer
FitsRequest (fill a n) buffer = n ≡ length buffer
FitsRequest _ buffer = Unit {0}

-- the place of a fault: the start of a read, a write or a fill, else 0
abbrev pub place : Request → ℕ
place (read a n) = a
place (write a d mask) = a
place (fill a n) = a
place _ = 0

-- 6 to 12, in this order, for a chip of a size of which these addresses are refreshed: whether a strobe is known to be
-- lost, and what is wrong with the request
abbrev pub tests : Bool → ℕ → (ℕ → Bool) → Request → List (Bool × Refusal)
tests lost size is_refreshed (read a n) =
    (lost, StrobeStillLost)
    ∷ (bad_length n, BadLength)
    ∷ (nat_lt size (a + n), PastSize)
    ∷ (not (each_from is_refreshed a n), NotRefreshed)
    ∷ []
tests lost size is_refreshed (write a d mask) =
    (lost, StrobeStillLost)
    ∷ (bad_length (length d), BadLength)
    ∷ (nat_lt size (a + length d), PastSize)
    ∷ (bad_mask mask (length d), BadMask)
    ∷ (not (each_from is_refreshed a (length d)), NotRefreshed)
    ∷ []
tests lost size is_refreshed (fill a n) =
    (lost, StrobeStillLost)
    ∷ (bad_fill a n, BadFill)
    ∷ (nat_le size a, PastSize)
    ∷ (not (each_from is_refreshed (base n a) n), NotRefreshed)
    ∷ []
tests lost size is_refreshed (latency_type v) = (lost, StrobeStillLost) ∷ (nat_lt 1 v, BadSetting) ∷ []
tests lost size is_refreshed (coverage v) = (lost, StrobeStillLost) ∷ (nat_lt 7 v, BadSetting) ∷ []
tests lost size is_refreshed (register r) = (lost, StrobeStillLost) ∷ (not (readable r), BadSetting) ∷ []
-- a reset is always taken
tests lost size is_refreshed reset = []

-- what refuses a request
abbrev pub refusal : Meaning → Bool → Request → Option Refusal
refusal m lost q = first_refusal (tests lost (size m.config) (refreshed m) q)
