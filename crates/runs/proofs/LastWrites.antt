-- Reads return the last write.
use Rattle.std.proofs.Common.{◌≡◌, ℕ, ◌<◌, true, false, if◌then◌else◌, Bool, List, [], ◌∷◌, Some, None, Ok, Err, Option, sym, refl, ap, ◌∙◌, subst, arith}
use Rattle.std.specs.Option.{unwrap_or}
use Rattle.std.specs.Prelude.{is_ok, is_err}
use Rattle.fault.specs.Refusals.{details, fault_at}
use Rattle.fault.specs.declared.Refusal.{Refusal}
use Rattle.fault.specs.declared.Refusal.TheVariants.{NoStrobe}
use Rattle.chip.specs.Meaning.{Meaning, size, refreshed}
use Rattle.chip.specs.Sent.{Event, Answer}
use Rattle.register.specs.declared.fields.Coverage.{Coverage}
use Rattle.port.specs.Acts.{Act, any_lost}
use Rattle.port.specs.Answers.{good_count, last_answer, answer_of}
use Rattle.port.specs.Plans.{plan}
use Rattle.port.specs.Requests.{Request, place, refusal, tests, FitsRequest}
use Rattle.port.specs.Requests as requests
use Rattle.port.specs.Serves.{Woken, Transaction, Judged}
use Rattle.port.specs.Wakes.{IsReady}
use Rattle.runs.specs.Histories.{History, begun, onward, bytes_read, count_read}
use Rattle.runs.specs.LastWrites.{ReadsKnown, EachWith, ReadsReturnLastWrite}
use Rattle.runs.specs.Scoreboards.{Scoreboard, blank, board_if_taken, board_after}
use Rattle.runs.proofs.Agreements.{Agrees, blank_agrees}
use Rattle.runs.proofs.Courses.{course}
use Rattle.port.proofs.Ready.{ready_kept, config_kept}
use Rattle.runs.proofs.Served.{fresh_ready}
use Rattle.port.proofs.ActLists.{last_found}
use Rattle.runs.proofs.Shorts.{first_below, tests_below}
use Rattle.runs.proofs.TakenRequests.{taken_agrees, taken_reads}

-- ---- answers

-- what a port refuses has no good bytes
pub no_good : (e : Refusal) → (details e).number < 13 → (details e).good ≡ None
no_good (NoStrobe k) low = absurd (omega arith)
no_good e low = refl

-- so a request that is refused reads none
pub reads_none : (q : Request) (e : Refusal) (at : ℕ) → (details e).good ≡ None → bytes_read q (Err (fault_at e at)) ≡ 0
reads_none (requests.read a n) e at none = ap (λ o. unwrap_or o 0) none
reads_none (requests.fill a n) e at none = ap (λ o. unwrap_or o 0) none
reads_none (requests.write a d mask) e at none = refl
reads_none (requests.latency_type v) e at none = refl
reads_none (requests.coverage v) e at none = refl
reads_none (requests.register r) e at none = refl
reads_none requests.reset e at none = refl

-- an answer that is no fault is good
ok_unless_err : (r : Answer) → is_err r ≡ false → is_ok r ≡ true
ok_unless_err (Ok x) none = refl
ok_unless_err (Err e) none = cc

-- so is the answer to a request of which no frame is lost
ok_unless_lost : (buffer : List ℕ) (q : Request) (acts : List Act) → any_lost acts ≡ false
    → is_ok (answer_of buffer q acts) ≡ true
ok_unless_lost buffer q acts none =
    ap (λ k. is_ok (if k then Err (fault_at (NoStrobe (good_count buffer q acts)) (place q)) else last_answer acts)) none
    ∙ ok_unless_err (last_answer acts) (last_found acts none)

-- the scoreboard after a transaction, by whether its answer is a fault
after_by : (refreshes : Coverage → ℕ → Bool) (t : Transaction) (board : Scoreboard) (m : Meaning) (ok : Bool)
    → is_ok t.answer ≡ ok → Agrees (if ok then board_if_taken refreshes t.request board else board) m
    → Agrees (board_after refreshes t board) m
after_by refreshes t board m ok is =
    subst (λ k. Agrees (if k then board_if_taken refreshes t.request board else board) m) (sym is)

-- ---- one transaction

module _ {X : Type 0} (meaning : X → Meaning) (gives : X → Event → X → Type 0) where
  -- what it reads is known, and scoreboard and chip agree after it, unless a strobe was lost
  record KeepsBoard (p : Woken X) (t : Transaction) (q : Woken X) (board : Scoreboard) : Type 0 where
    reads : ReadsKnown board t
    agrees : q.lost ≡ false → Agrees (board_after (meaning p.chip).refreshes t board) (meaning q.chip)

  -- refused or taken, where scoreboard and chip agree before it
  judged_keeps : (o : Option Refusal) (p q : Woken X) (t : Transaction) (board : Scoreboard)
      → refusal (meaning p.chip) p.lost t.request ≡ o → FitsRequest t.request t.before → Judged meaning gives o p t q
      → IsReady (meaning p.chip) → (p.lost ≡ false → Agrees board (meaning p.chip)) → KeepsBoard p t q board
  judged_keeps (Some e) p q t board is fits refuses ready agrees =
      let m = meaning p.chip in
      let list = tests p.lost (size m.config) (refreshed m) t.request in
      let low = first_below list e (tests_below p.lost (size m.config) (refreshed m) t.request) is in
      let reads = reads_none t.request e (place t.request) (no_good e low) in
      let none : count_read t ≡ 0 = ap (bytes_read t.request) refuses.answer ∙ reads in
      record {
        reads = λ i b h known. absurd (omega arith);
        agrees = subst (λ w. w.lost ≡ false → Agrees (board_after m.refreshes t board) (meaning w.chip)) (sym refuses.port)
            (λ found. after_by m.refreshes t board m false (ap is_ok refuses.answer) (agrees found));
      }
  judged_keeps None p q t board is fits (performs, lost) ready agrees =
      let m = meaning p.chip in
      let n = meaning q.chip in
      let tasks = plan m.config m.state t.request in
      let does = course meaning gives p.chip q.chip tasks t.acts ready.awake performs.acts performs.follows in
      record {
        reads = taken_reads board m n t.request t.acts p.lost t.before t.answer t.after is agrees does fits
            performs.answer performs.buffer;
        agrees = λ found.
            let ok = ap is_ok performs.answer ∙ ok_unless_lost t.before t.request t.acts (sym lost ∙ found) in
            after_by m.refreshes t board n true ok (taken_agrees board m n t.request t.acts p.lost is agrees does);
      }

  -- ---- one after another

  -- from a ready chip that a scoreboard agrees with
  reads_on : (refreshes : Coverage → ℕ → Bool) (board : Scoreboard) (p q : Woken X) (ts : List Transaction)
      → (meaning p.chip).refreshes ≡ refreshes → IsReady (meaning p.chip)
      → (p.lost ≡ false → Agrees board (meaning p.chip)) → History meaning gives p ts q
      → EachWith ReadsKnown refreshes board ts
  reads_on refreshes board p q [] same ready agrees begun = tt
  reads_on refreshes board p q (t ∷ ts) same ready agrees (onward {q = r} one rest) =
      let o = refusal (meaning p.chip) p.lost t.request in
      let keeps = judged_keeps o p r t board refl one.fits one.judged ready agrees in
      let still = (config_kept meaning gives p r t ready one).refreshes ∙ same in
      let on : r.lost ≡ false → Agrees (board_after refreshes t board) (meaning r.chip) =
      λ found. subst (λ f. Agrees (board_after f t board) (meaning r.chip)) same (keeps.agrees found) in
      let others = reads_on refreshes (board_after refreshes t board) r q ts still
      (ready_kept meaning gives p r t ready one) on rest in
      (keeps.reads, others)

  -- from a port that has just been woken
  pub reads_return_last_write : ReadsReturnLastWrite meaning gives
  reads_return_last_write p q ts fresh history =
      reads_on (meaning p.chip).refreshes blank p q ts refl (fresh_ready meaning gives p fresh)
      (λ found. blank_agrees (meaning p.chip)) history
