-- What a model does at a frame and at a reset, exactly. Assumes nothing.
use Rattle.std.specs.Prelude.{◌≡◌, ℕ, ◌+◌, ◌-◌, ◌%◌, ◌^◌, min, Bool, true, if◌then◌else◌, List, Some, None, Ok, Err, Option, Result}
use Rattle.fault.specs.Refusals.{fault_at}
use Rattle.fault.specs.declared.Fault.{Fault}
use Rattle.fault.specs.declared.Refusal.{Refusal}
use Rattle.chip.specs.LowClocks.{low_for}
use Rattle.chip.specs.Refused.{refused}
use Rattle.chip.specs.Resets.{reset_refused, after_pulse}
use Rattle.chip.specs.Sent.{Sent, read, register_read, global_reset, place, Answer, Event, sending, resetting}
use Rattle.chip.specs.Taken.{ended, is_answered, answer_by}
use Rattle.model.specs.Contents.{Contents, meaning}
use Rattle.model.specs.Latency.{strobe_stays, is_variable, latency}
use Rattle.model.specs.Store.{store_after, burst_bytes}

-- ---- the counts of reads

-- one more variable read, modulo 32
abbrev pub one_more_variable : Contents → Bool → ℕ
one_more_variable m variable = if variable then (m.variable_reads + 1) % 32 else m.variable_reads

-- one more answered read; the count stays at 2 ^ 32 - 1
abbrev pub one_more_answered : Contents → ℕ
one_more_answered m = min (m.answered_reads + 1) (2 ^ 32 - 1)

-- a read without the strobe is not answered
abbrev pub answered_by_strobe : Contents → ℕ
answered_by_strobe m = if strobe_stays m then one_more_answered m else m.answered_reads

abbrev pub variable_after : Contents → Sent → ℕ
variable_after m (read b a n) = one_more_variable m (is_variable m)
variable_after m global_reset = 0
variable_after m _ = m.variable_reads

abbrev pub answered_after : Contents → Sent → ℕ
answered_after m (read b a n) = answered_by_strobe m
answered_after m (register_read r) = answered_by_strobe m
answered_after m global_reset = 0
answered_after m _ = m.answered_reads

-- ---- a frame

-- after a frame that is taken
abbrev pub after_frame : Contents → Sent → Contents
after_frame m f = record m {
  state = ended m.config m.state f (low_for m.config m.state f (latency m)) (strobe_stays m);
  store = store_after m f;
  variable_reads = variable_after m f;
  answered_reads = answered_after m f;
}

-- the buffer: the bytes of the burst, where the strobe stays
abbrev pub buffer_after : Contents → Sent → List ℕ → List ℕ
buffer_after m (read b a n) old = if strobe_stays m then burst_bytes m b a n else old
buffer_after m _ old = old

-- what comes of a frame
pub record FrameOutcome : Type 0 where
  pub after : Contents
  pub answer : Answer
  pub buffer : List ℕ

-- by what refuses the frame, if anything does
abbrev pub outcome_by : Option Refusal → Contents → Sent → List ℕ → FrameOutcome
outcome_by (Some e) m f old = record { after = m; answer = Err (fault_at e (place f)); buffer = old }
outcome_by None m f old = record {
  after = after_frame m f;
  answer = answer_by m.config m.state (is_answered (meaning (after_frame m f)) f) f;
  buffer = buffer_after m f old;
}

abbrev pub step : Contents → ℕ → Sent → List ℕ → FrameOutcome
step m gap f old = outcome_by (refused m.config m.state gap f) m f old

-- the contents, the answer and the buffer are those of the step
pub record Steps (m : Contents) (gap : ℕ) (f : Sent) (old : List ℕ) (r : Answer) (n : Contents) (new : List ℕ)
    : Type 0 where
  pub after : n ≡ (step m gap f old).after
  pub answer : r ≡ (step m gap f old).answer
  pub buffer : new ≡ (step m gap f old).buffer

-- ---- a reset

-- the registers of the table, the strobe there, tRST due, and both counts at 0; the store stays
abbrev pub after_restart : Contents → Contents
after_restart m = record m { state = after_pulse m.config m.state true; variable_reads = 0; answered_reads = 0 }

-- what comes of a reset
pub record ResetOutcome : Type 0 where
  pub after : Contents
  pub answer : Result (Unit {0}) (Fault ℕ)

abbrev pub reset_outcome_by : Option Refusal → Contents → ResetOutcome
reset_outcome_by (Some e) m = record { after = m; answer = Err (fault_at e 0) }
reset_outcome_by None m = record { after = after_restart m; answer = Ok tt }

abbrev pub reset_step : Contents → ℕ → ResetOutcome
reset_step m pulse = reset_outcome_by (reset_refused m.config m.state pulse) m

pub record Restarts (m : Contents) (pulse : ℕ) (r : Result (Unit {0}) (Fault ℕ)) (n : Contents) : Type 0 where
  pub after : n ≡ (reset_step m pulse).after
  pub answer : r ≡ (reset_step m pulse).answer

-- ---- an event

-- just this step, or just this reset
abbrev pub Exactly : Contents → Event → Contents → Type 0
Exactly m (sending gap f old r new) n = Steps m gap f old r n new
Exactly m (resetting pulse r) n = Restarts m pulse r n
