-- What a buffer holds after a request that brought bytes.
use Rattle.std.proofs.Common.{◌≡◌, ℕ, ◌<◌, ◌≤◌, Bool, true, false, if◌then◌else◌, List, length, take, drop, Some, Ok, Err, refl, ap, ◌∙◌, subst, arith}
use Rattle.std.specs.Prelude.{slice_index, is_err}
use Rattle.std.proofs.lemmas.List.{get_or-take, get_or_append_left, length-take}
use Rattle.chip.specs.Sent.{Answer}
use Rattle.fault.specs.Refusals.{fault_at}
use Rattle.fault.specs.declared.Refusal.TheVariants.{NoStrobe}
use Rattle.port.specs.Acts.{Act, any_lost}
use Rattle.port.specs.Answers.{request_bytes, buffer_with, good_count, last_answer, answer_of}
use Rattle.port.specs.Requests.{Request, place}
use Rattle.port.proofs.ActLists.{last_found}
use Rattle.runs.specs.Histories.{brought_by}
use Rattle.runs.specs.Scoreboards.{Scoreboard}
use Rattle.runs.proofs.ReadBytes.{AreKnown}

-- bytes that were laid into a buffer
laid_at : (buffer bytes : List ℕ) (i : ℕ) → i < length bytes → i < length buffer
    → slice_index (buffer_with buffer bytes) i ≡ slice_index bytes i
laid_at buffer bytes i h inside =
    let front = take (length buffer) bytes in
    get_or_append_left front (drop (length bytes) buffer) 0 i (omega (arith, length-take (length buffer) bytes))
    ∙ get_or-take (length buffer) bytes i 0 inside

-- an answer that is no fault brings all
brought_all : (r : Answer) (n : ℕ) → is_err r ≡ false → brought_by r n ≡ n
brought_all (Ok x) n none = refl
brought_all (Err e) n none = cc

-- the number of a byte that came, and that the buffer has room for
record IsBrought (bytes buffer : List ℕ) (i : ℕ) : Type 0 where
  came : i < length bytes
  room : i < length buffer

-- an answer brings no more bytes than came, and no more than the buffer holds
brought_most : (buffer : List ℕ) (q : Request) (acts : List Act) (n i : ℕ) → n ≡ length buffer
    → (any_lost acts ≡ false → n ≤ length (request_bytes q acts)) → i < brought_by (answer_of buffer q acts) n
    → IsBrought (request_bytes q acts) buffer i
brought_most buffer q acts n i fits enough = by_lost (any_lost acts) refl
  where
    by_lost : (lost : Bool) → any_lost acts ≡ lost → i < brought_by (if lost
        then Err (fault_at (NoStrobe (good_count buffer q acts)) (place q)) else last_answer acts) n
        → IsBrought (request_bytes q acts) buffer i
    by_lost true is h = record { came = omega arith; room = omega arith }
    by_lost false is h =
        let all = brought_all (last_answer acts) n (last_found acts is) in
        let some = enough is in
        record { came = omega arith; room = omega arith }

-- the bytes that a transaction read are known, where those that came are
pub buffer_known : (board : Scoreboard) (place : ℕ → ℕ) (q : Request) (acts : List Act) (before : List ℕ)
    (answer : Answer) (after : List ℕ) (n : ℕ) → n ≡ length before → answer ≡ answer_of before q acts
    → after ≡ buffer_with before (request_bytes q acts) → AreKnown board place (request_bytes q acts)
    → (any_lost acts ≡ false → n ≤ length (request_bytes q acts)) → (i b : ℕ) → i < brought_by answer n
    → board (place i) ≡ Some b → slice_index after i ≡ b
buffer_known board place q acts before answer after n fits answered filled known enough i b h is =
    let brought = brought_most before q acts n i fits enough (subst (λ r. i < brought_by r n) answered h) in
    ap (λ xs. slice_index xs i) filled ∙ laid_at before (request_bytes q acts) i brought.came brought.room
    ∙ known.each i b brought.came is
