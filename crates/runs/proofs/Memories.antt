-- A memory by the requests alone: what it shows to a list of requests, where it knows each byte that is read.
use Rattle.std.proofs.Common.{◌≡◌, ℕ, ◌<◌, ◌≤◌, Bool, false, cond, List, [], ◌∷◌, length, map, take, get_or, Some, None, Ok, Err, Option, refl, ap, ◌∙◌, subst, arith}
use Rattle.std.specs.Prelude.{Contains, IsSome, unwrap_or}
use Rattle.std.specs.List.{range_with_len}
use Rattle.std.proofs.lemmas.Bool.{ltb-false}
use Rattle.std.proofs.lemmas.List.{length-take-le, get_or-take}
use Rattle.std.proofs.lemmas.List.Elements.{Contains-get_or, Contains-append_right}
use Rattle.std.proofs.lemmas.List.FromFn.{fill_by_all}
use Rattle.fault.specs.Refusals.{fault_at}
use Rattle.fault.specs.declared.Refusal.{Refusal}
use Rattle.register.specs.Codes.{coverage_of}
use Rattle.register.specs.declared.fields.Coverage.{Coverage}
use Rattle.register.specs.declared.fields.Coverage.TheVariants.{All as Full}
use Rattle.chip.specs.Refused.{first_refusal}
use Rattle.chip.specs.declared.bus_frame.Reply.TheVariants.{Done}
use Rattle.port.specs.Requests.{Request, read, write, fill, latency_type, coverage, register, reset, place, tests, FitsRequest}
use Rattle.runs.specs.Histories.{bytes_read}
use Rattle.runs.specs.Scoreboards.{Scoreboard, board_if_taken, address_read}
use Rattle.runs.specs.Twins.{is_matched, Seen}
use Rattle.runs.proofs.LastWrites.{no_good, reads_none}
use Rattle.chip.proofs.Tests.{none_first}
use Rattle.runs.proofs.Shorts.{first_below, tests_below}

-- the addresses that are refreshed, and what the memory is known to hold
pub record Memory : Type 0 where
  pub kept : ℕ → Bool
  pub board : Scoreboard

-- what refuses a request to a memory of a size
abbrev pub verdict : ℕ → Memory → Request → Option Refusal
verdict size m q = first_refusal (tests false size m.kept q)

-- the bytes that the scoreboard has where a request that is taken reads
abbrev pub known_bytes : Scoreboard → Request → List ℕ
known_bytes board q = map (λ i. unwrap_or (board (address_read q i)) 0) (range_with_len 0 (bytes_read q (Ok Done)))

-- what a caller sees of a request, by what refuses it, if anything does
abbrev pub shown : Option Refusal → Memory → Request → Seen
shown (Some e) m q = record { answer = Err (fault_at e (place q)); bytes = [] }
shown None m q = record { answer = Ok Done; bytes = known_bytes m.board q }

-- the addresses that are refreshed after a request that is taken
abbrev pub kept_by : (Coverage → ℕ → Bool) → Request → (ℕ → Bool) → ℕ → Bool
kept_by refreshes (coverage v) kept = refreshes (coverage_of v)
kept_by refreshes reset kept = refreshes Full
kept_by refreshes _ kept = kept

-- the memory after a request, by what refuses it, if anything does
abbrev pub memory_after : (Coverage → ℕ → Bool) → Option Refusal → Request → Memory → Memory
memory_after refreshes (Some e) q m = m
memory_after refreshes None q m = record { kept = kept_by refreshes q m.kept; board = board_if_taken refreshes q m.board }

-- what a list of requests shows
abbrev pub shows : (Coverage → ℕ → Bool) → ℕ → Memory → List Request → List Seen
shows refreshes size m [] = []
shows refreshes size m (q ∷ qs) =
    shown (verdict size m q) m q ∷ shows refreshes size (memory_after refreshes (verdict size m q) q m) qs

-- ---- a request that is refused

-- it reads nothing
pub refused_reads : (size : ℕ) (m : Memory) (q : Request) (e : Refusal) → verdict size m q ≡ Some e
    → bytes_read q (Err (fault_at e (place q))) ≡ 0
refused_reads size m q e is =
    reads_none q e (place q) (no_good e (first_below _ e (tests_below false size m.kept q) is))

-- ---- a request that is taken

-- what is known, and is each byte that is known, is that byte
known : (o : Option ℕ) (x : ℕ) → IsSome o → ((b : ℕ) → o ≡ Some b → x ≡ b) → x ≡ unwrap_or o 0
known None x has is = cc
known (Some b) x has is = is b refl

-- it reads no more than its buffer has
count_fits : (q : Request) (before after : List ℕ) → FitsRequest q before → length after ≡ length before
    → bytes_read q (Ok Done) ≤ length after
count_fits (read a n) before after fits same = omega arith
count_fits (write a d mask) before after fits same = omega arith
count_fits (fill a n) before after fits same = omega arith
count_fits (latency_type v) before after fits same = omega arith
count_fits (coverage v) before after fits same = omega arith
count_fits (register r) before after fits same = omega arith
count_fits reset before after fits same = omega arith

-- where each byte that is read is known, and is the known one, the buffer begins with the known bytes
module _ (q : Request) (before after : List ℕ) (board : Scoreboard) (fits : FitsRequest q before)
    (same : length after ≡ length before) where
  pub bytes_known : ((i : ℕ) → i < bytes_read q (Ok Done) → IsSome (board (address_read q i)))
      → ((i b : ℕ) → i < bytes_read q (Ok Done) → board (address_read q i) ≡ Some b → get_or after i 0 ≡ b)
      → take (bytes_read q (Ok Done)) after ≡ known_bytes board q
  bytes_known has is =
      fill_by_all (λ i. unwrap_or (board (address_read q i)) 0) (take (bytes_read q (Ok Done)) after) _ 0
      (length-take-le (bytes_read q (Ok Done)) after (count_fits q before after fits same))
      (λ i h. get_or-take (bytes_read q (Ok Done)) after i 0 h
      ∙ known (board (address_read q i)) _ (has i h) (λ b e. is i b h e))

-- ---- a request that is left out of the matching

-- one that is taken leaves the memory
unmatched_taken : (refreshes : Coverage → ℕ → Bool) (q : Request) (m : Memory) → is_matched q ≡ false
    → memory_after refreshes None q m ≡ m
unmatched_taken refreshes (read a n) m is = cc
unmatched_taken refreshes (write a d mask) m is = cc
unmatched_taken refreshes (fill a n) m is = cc
unmatched_taken refreshes (latency_type v) m is = refl
unmatched_taken refreshes (coverage v) m is = cc
unmatched_taken refreshes (register r) m is = refl
unmatched_taken refreshes reset m is = cc

-- and so does one that is refused
pub unmatched_leaves : (refreshes : Coverage → ℕ → Bool) (o : Option Refusal) (q : Request) (m : Memory)
    → is_matched q ≡ false → memory_after refreshes o q m ≡ m
unmatched_leaves refreshes (Some e) q m is = refl
unmatched_leaves refreshes None q m is = unmatched_taken refreshes q m is

-- ---- two accounts of what each coverage refreshes

-- a coverage that a memory takes is one that there is
coverage_there : (size : ℕ) (m : Memory) (v : ℕ) → verdict size m (coverage v) ≡ None → v ≤ 7
coverage_there size m v none = ltb-false 7 v (none_first _ _ _ (none_first _ _ _ none).1).0

module _ (r s : Coverage → ℕ → Bool) (full : r Full ≡ s Full) where
  -- where its coverage refreshes the same addresses, a request leads to the same memory
  same_after : (o : Option Refusal) (q : Request) (m : Memory)
      → ((v : ℕ) → q ≡ coverage v → o ≡ None → r (coverage_of v) ≡ s (coverage_of v))
      → memory_after r o q m ≡ memory_after s o q m
  same_after (Some e) q m same = refl
  same_after None (read a n) m same = refl
  same_after None (write a d mask) m same = refl
  same_after None (fill a n) m same = refl
  same_after None (latency_type v) m same = refl
  same_after None (coverage v) m same =
      λ i. record { kept = same v refl refl i; board = λ x. cond (same v refl refl i x) (m.board x) None }
  same_after None (register v) m same = refl
  same_after None reset m same = λ i. record { kept = full i; board = λ x. None }

  -- where each coverage in the list refreshes the same addresses, they show the same
  pub same_shows : (size : ℕ) (qs : List Request) (m : Memory)
      → ((v : ℕ) → Contains qs (coverage v) → v ≤ 7 → r (coverage_of v) ≡ s (coverage_of v))
      → shows r size m qs ≡ shows s size m qs
  same_shows size [] m same = refl
  same_shows size (q ∷ qs) m same =
      let o = verdict size m q in
      let here : Contains (q ∷ qs) q = Contains-get_or (q ∷ qs) 0 q (omega arith) in
      let after = same_after o q m (λ v is none. same v (subst (Contains (q ∷ qs)) is here)
      (coverage_there size m v (subst (λ x. verdict size m x ≡ None) is none))) in
      let rest =
      ap (λ n. shows r size n qs) after
      ∙ same_shows size qs (memory_after s o q m)
      (λ v later there. same v (Contains-append_right (q ∷ []) qs (coverage v) later) there) in
      λ i. shown o m q ∷ rest i
