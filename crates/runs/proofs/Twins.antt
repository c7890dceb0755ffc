-- Twin ports answer alike: each shows what a memory by the requests alone shows, and both memories show the same.
use Rattle.std.proofs.Common.{◌≡◌, ◌≢◌, ℕ, ◌<◌, ◌≤◌, Bool, true, false, cond, List, [], ◌∷◌, length, map, take, Some, None, Ok, Option, sym, refl, ap, ◌∙◌, subst, ⊎_elim, arith}
use Rattle.std.specs.Prelude.{All, Contains, is_ok}
use Rattle.std.proofs.lemmas.Bool.{cond_both}
use Rattle.std.proofs.lemmas.List.{length-append, length-take, length-drop}
use Rattle.std.proofs.lemmas.List.Elements.{All-head, All-tail, Contains-append_left, Contains-append_right, Contains-append_cases}
use Rattle.fault.specs.declared.Refusal.{Refusal}
use Rattle.register.specs.Codes.{coverage_of}
use Rattle.register.specs.declared.fields.Coverage.{Coverage}
use Rattle.register.specs.declared.fields.Coverage.TheVariants.{All as Full}
use Rattle.chip.specs.Meaning.{Meaning, Lawful, refreshed, coverage, size}
use Rattle.chip.specs.Refused.{first_refusal}
use Rattle.chip.specs.Runs.{Does}
use Rattle.chip.specs.Sent.{Event}
use Rattle.chip.specs.declared.bus_frame.Reply.TheVariants.{Done}
use Rattle.port.specs.Answers.{buffer_with, request_bytes}
use Rattle.port.specs.Requests as request
use Rattle.port.specs.Requests.{Request, tests}
use Rattle.port.specs.Serves.{Woken, Transaction, Performs, Judged, Serves}
use Rattle.port.specs.Wakes.{IsReady}
use Rattle.runs.specs.Histories.{History, begun, onward, IsFresh, refusal_number, bytes_read}
use Rattle.runs.specs.LastWrites.{EachWith, ReadsKnown}
use Rattle.runs.specs.Scoreboards.{blank, board_if_taken, board_after}
use Rattle.runs.specs.Twins.{is_matched, matched, seen, IsKnown, IsTame, TwinPortsAnswerAlike}
use Rattle.runs.proofs.LastWrites.{reads_return_last_write}
use Rattle.runs.proofs.Memories.{Memory, verdict, known_bytes, shown, kept_by, memory_after, shows, refused_reads, bytes_known, unmatched_leaves, same_shows}
use Rattle.runs.proofs.Outcomes.{coverage_by, performed_found, performed_answer, performed_coverage, fresh_coverage}
use Rattle.port.proofs.Ready.{ready_kept, config_kept}
use Rattle.runs.proofs.Served.{fresh_ready}

-- the requests of transactions
abbrev requests_of : List Transaction → List Request
requests_of ts = map (λ t. t.request) ts

-- ---- one transaction

-- the buffer keeps its length
length-laid : (buffer bytes : List ℕ) → length (buffer_with buffer bytes) ≡ length buffer
length-laid buffer bytes = simp (length-append, length-take, length-drop) (omega arith)

-- where the coverage before refreshes these addresses, so does the coverage after
same_kept : (refreshes : Coverage → ℕ → Bool) (q : Request) (c : Coverage) (kept : ℕ → Bool) → refreshes c ≡ kept
    → refreshes (coverage_by q c) ≡ kept_by refreshes q kept
same_kept refreshes (request.read a n) c kept is = is
same_kept refreshes (request.write a d mask) c kept is = is
same_kept refreshes (request.fill a n) c kept is = is
same_kept refreshes (request.latency_type v) c kept is = is
same_kept refreshes (request.coverage v) c kept is = refl
same_kept refreshes (request.register r) c kept is = is
same_kept refreshes request.reset c kept is = refl

-- the scoreboard after a transaction that is taken, whatever one that is left out of the matching answers
entered_by : (refreshes : Coverage → ℕ → Bool) (m : Memory) (t : Transaction) (matches : Bool)
    → is_matched t.request ≡ matches → (is_matched t.request ≡ true → t.answer ≡ Ok Done)
    → board_after refreshes t m.board ≡ board_if_taken refreshes t.request m.board
entered_by refreshes m t true is answered =
    ap (λ r. cond (is_ok r) (board_if_taken refreshes t.request m.board) m.board) (answered is)
entered_by refreshes m t false is answered =
    let same = ap (λ n. n.board) (unmatched_leaves refreshes None t.request m is) in
    cond_both (is_ok t.answer) (board_if_taken refreshes t.request m.board) m.board
    (λ b. b ≡ board_if_taken refreshes t.request m.board) (λ _. refl) (λ _. sym same)

-- a port takes what a memory of this size takes: it knows of no lost strobe, and the same addresses are refreshed
record Stands {X : Type 0} (meaning : X → Meaning) (refreshes : Coverage → ℕ → Bool) (bytes : ℕ) (m : Memory)
    (p : Woken X) : Type 0 where
  ready : IsReady (meaning p.chip)
  lost : p.lost ≡ false
  covers : (meaning p.chip).refreshes ≡ refreshes
  sized : size (meaning p.chip).config ≡ bytes
  in_force : refreshed (meaning p.chip) ≡ m.kept

-- a transaction shows what the memory shows, and leads to its scoreboard
record Shows (refreshes : Coverage → ℕ → Bool) (o : Option Refusal) (m : Memory) (t : Transaction) : Type 0 where
  alike : is_matched t.request ≡ true → seen t ≡ shown o m t.request
  scored : board_after refreshes t m.board ≡ (memory_after refreshes o t.request m).board

module _ {X : Type 0} (meaning : X → Meaning) (gives : X → Event → X → Type 0) (refreshes : Coverage → ℕ → Bool)
    (bytes : ℕ) where
  module _ (m : Memory) (p q : Woken X) (t : Transaction) (stands : Stands meaning refreshes bytes m p)
      (one : Serves meaning gives p t q) (found : refusal_number t.answer ≢ Some 19) where
    -- the port refuses what the memory refuses
    judged : Judged meaning gives (verdict bytes m t.request) p t q
    judged =
        subst (λ o. Judged meaning gives o p t q)
        (λ i. first_refusal (tests (stands.lost i) (stands.sized i) (stands.in_force i) t.request)) one.judged

    -- what is refreshed after a request that is taken
    kept_after : Performs meaning gives p.chip t q.chip
        → refreshed (meaning q.chip) ≡ kept_by refreshes t.request m.kept
    kept_after done =
        let old = coverage (meaning p.chip).state in
        let covers = (config_kept meaning gives p q t stands.ready one).refreshes ∙ stands.covers in
        let set =
        performed_coverage meaning gives p.chip q.chip t done stands.ready.awake
        (performed_found meaning gives p.chip q.chip t done found) in
        let before : refreshes old ≡ m.kept = ap (λ r. r old) (sym stands.covers) ∙ stands.in_force in
        (λ i. covers i (set i)) ∙ same_kept refreshes t.request old m.kept before

    -- the port after a request takes what the memory after it takes
    stands_after : (o : Option Refusal) → Judged meaning gives o p t q
        → Stands meaning refreshes bytes (memory_after refreshes o t.request m) q
    stands_after (Some e) refused = subst (Stands meaning refreshes bytes m) (sym refused.port) stands
    stands_after None (done, lost) =
        let same = config_kept meaning gives p q t stands.ready one in
        record {
          ready = ready_kept meaning gives p q t stands.ready one;
          lost = lost ∙ performed_found meaning gives p.chip q.chip t done found;
          covers = same.refreshes ∙ stands.covers;
          sized = ap size same.config ∙ stands.sized;
          in_force = kept_after done;
        }

    module _ (has : IsKnown m.board t) (reads : ReadsKnown m.board t) where
      -- the bytes of a request that is taken are the known ones
      bytes_alike : Performs meaning gives p.chip t q.chip → t.answer ≡ Ok Done
          → take (bytes_read t.request (Ok Done)) t.after ≡ known_bytes m.board t.request
      bytes_alike done answered =
          bytes_known t.request t.before t.after m.board one.fits
          (ap length done.buffer ∙ length-laid t.before (request_bytes t.request t.acts))
          (λ i below. has i (subst (λ r. i < bytes_read t.request r) (sym answered) below))
          (λ i b below. reads i b (subst (λ r. i < bytes_read t.request r) (sym answered) below))

      -- refused or taken, the transaction shows what the memory shows
      shows_one : (o : Option Refusal) → verdict bytes m t.request ≡ o → Judged meaning gives o p t q
          → Shows refreshes o m t
      shows_one (Some e) is refused =
          let none =
          ap (λ r. take (bytes_read t.request r) t.after) refused.answer
          ∙ ap (λ n. take n t.after) (refused_reads bytes m t.request e is) in
          record {
            alike = λ _ i. record { answer = refused.answer i; bytes = none i };
            scored = ap (λ r. cond (is_ok r) (board_if_taken refreshes t.request m.board) m.board) refused.answer;
          }
      shows_one None is (done, lost) =
          let answered =
          performed_answer meaning gives p.chip q.chip t done stands.ready.awake
          (performed_found meaning gives p.chip q.chip t done found) in
          let bytes_by =
          λ (r : t.answer ≡ Ok Done). ap (λ x. take (bytes_read t.request x) t.after) r ∙ bytes_alike done r in
          record {
            alike = λ is i. record { answer = answered is i; bytes = bytes_by (answered is) i };
            scored = entered_by refreshes m t (is_matched t.request) refl answered;
          }

  -- ---- one port

  -- before other matched transactions, one that is matched or left out
  before_others : (t : Transaction) (us : List Transaction) (m : Memory) (matches : Bool)
      → is_matched t.request ≡ matches → Shows refreshes (verdict bytes m t.request) m t
      → map seen us
      ≡ shows refreshes bytes (memory_after refreshes (verdict bytes m t.request) t.request m) (requests_of us)
      → map seen (cond matches (t ∷ us) us) ≡ shows refreshes bytes m (requests_of (cond matches (t ∷ us) us))
  before_others t us m true is one more = λ i. one.alike is i ∷ more i
  before_others t us m false is one more =
      more
      ∙ ap (λ n. shows refreshes bytes n (requests_of us))
      (unmatched_leaves refreshes (verdict bytes m t.request) t.request m is)

  -- the matched transactions of a history show what the memory shows
  history_shows : (ts : List Transaction) (p q : Woken X) (m : Memory) → Stands meaning refreshes bytes m p
      → History meaning gives p ts q → All (λ t. refusal_number t.answer ≢ Some 19) ts
      → EachWith IsKnown refreshes m.board ts → EachWith ReadsKnown refreshes m.board ts
      → map seen (matched ts) ≡ shows refreshes bytes m (requests_of (matched ts))
  history_shows [] p q m stands begun found known reads = refl
  history_shows (t ∷ ts) p q m stands (onward {q = e} one rest) found (has, known) (read, reads) =
      let here = All-head (λ u. refusal_number u.answer ≢ Some 19) t ts found in
      let later = All-tail (λ u. refusal_number u.answer ≢ Some 19) t ts found in
      let o = verdict bytes m t.request in
      let j = judged m p e t stands one here in
      let shown_t = shows_one m p e t stands one here has read o refl j in
      before_others t (matched ts) m (is_matched t.request) refl shown_t
      (history_shows ts e q (memory_after refreshes o t.request m) (stands_after m p e t stands one here o j) rest later
      (subst (λ b. EachWith IsKnown refreshes b ts) shown_t.scored known)
      (subst (λ b. EachWith ReadsKnown refreshes b ts) shown_t.scored reads))

-- a memory of which all is refreshed, and nothing is known
abbrev new_memory : (Coverage → ℕ → Bool) → Memory
new_memory refreshes = record { kept = refreshes Full; board = blank }

-- the matched transactions show what such a memory of the size of a chip shows
abbrev ShowsAsNew : Meaning → List Transaction → Type 0
ShowsAsNew m ts =
    map seen (matched ts) ≡ shows m.refreshes (size m.config) (new_memory m.refreshes) (requests_of (matched ts))

module _ {X : Type 0} (meaning : X → Meaning) (gives : X → Event → X → Type 0) where
  -- a port that has just been woken takes what such a memory takes
  fresh_stands : (p : Woken X) → IsFresh meaning gives p
      → Stands meaning (meaning p.chip).refreshes (size (meaning p.chip).config)
      (new_memory (meaning p.chip).refreshes) p
  fresh_stands p fresh = record {
    ready = fresh_ready meaning gives p fresh;
    lost = fresh.1.1.none_lost;
    covers = refl;
    sized = refl;
    in_force = ap (meaning p.chip).refreshes (fresh_coverage meaning gives p fresh);
  }

  -- and shows what it shows
  fresh_shows : (p q : Woken X) (ts : List Transaction) → IsFresh meaning gives p → History meaning gives p ts q
      → IsTame (meaning p.chip) ts → ShowsAsNew (meaning p.chip) ts
  fresh_shows p q ts fresh history tame =
      let m = meaning p.chip in
      history_shows meaning gives m.refreshes (size m.config) ts p q (new_memory m.refreshes) (fresh_stands p fresh)
      history tame.none_lost tame.known (reads_return_last_write meaning gives p q ts fresh history)

-- ---- two ports

-- a request behind one that is kept, or left out, is one of the list
behind_one : (t : Transaction) (us ts : List Transaction) (q : Request) (matches : Bool)
    → (Contains (requests_of us) q → Contains (requests_of ts) q)
    → Contains (requests_of (cond matches (t ∷ us) us)) q → Contains (requests_of (t ∷ ts)) q
behind_one t us ts q true on there =
    ⊎_elim (Contains-append_left (t.request ∷ []) (requests_of ts) q)
    (λ later. Contains-append_right (t.request ∷ []) (requests_of ts) q (on later))
    (Contains-append_cases (t.request ∷ []) (requests_of us) q there)
behind_one t us ts q false on there = Contains-append_right (t.request ∷ []) (requests_of ts) q (on there)

-- a request that is matched is one of the list
matched_contained : (ts : List Transaction) (q : Request) → Contains (requests_of (matched ts)) q
    → Contains (requests_of ts) q
matched_contained [] q there = there
matched_contained (t ∷ ts) q there =
    behind_one t (matched ts) ts q (is_matched t.request) (matched_contained ts q) there

-- two tests of which each follows from the other
same_test : (a b : Bool) → (a ≡ true → b ≡ true) → (b ≡ true → a ≡ true) → a ≡ b
same_test true b to from = sym (to refl)
same_test false true to from = from refl
same_test false false to from = refl

-- of two chips of one size, the full coverage refreshes the same addresses
same_full : (m n : Meaning) → Lawful m → Lawful n → size m.config ≡ size n.config → m.refreshes Full ≡ n.refreshes Full
same_full m n law other same =
    let each : (x : ℕ) → m.refreshes Full x ≡ n.refreshes Full x =
    λ x. same_test (m.refreshes Full x) (n.refreshes Full x)
    (λ on. other.full x (subst (λ k. x < k) same (law.inside Full x on)))
    (λ on. law.full x (subst (λ k. x < k) (sym same) (other.inside Full x on))) in
    λ i x. each x i

module _ {X : Type 0} (meaning : X → Meaning) (gives : X → Event → X → Type 0)
    (lawful : (c : X) → Lawful (meaning c)) where
  pub twin_ports_answer_alike : TwinPortsAnswerAlike meaning gives
  twin_ports_answer_alike p q ts p' q' us fresh history law fresh' history' twins =
      let m = meaning p.chip in
      let n = p'.chip in
      let full = same_full m n (lawful p.chip) law twins.sizes in
      let covers : (v : ℕ) → Contains (requests_of (matched ts)) (request.coverage v) → v ≤ 7
      → m.refreshes (coverage_of v) ≡ n.refreshes (coverage_of v) =
      λ v there small i x. twins.coverages v (matched_contained ts (request.coverage v) there) small x i in
      fresh_shows meaning gives p q ts fresh history twins.first
      ∙ same_shows m.refreshes n.refreshes full (size m.config) (requests_of (matched ts)) (new_memory m.refreshes)
      covers
      ∙ (λ i. shows n.refreshes (twins.sizes i) (record { kept = full i; board = blank }) (twins.requests i))
      ∙ sym (fresh_shows (λ o. o) Does p' q' us fresh' history' twins.second)
