-- What a reset by a pulse does to a chip. Assumes nothing.
use Rattle.std.specs.Prelude.{◌≡◌, ℕ, ◌<◌, Bool, true, false, [], ◌∷◌, Some, None, Ok, Err, Option, Result, nat_lt}
use Rattle.fault.specs.Refusals.{fault_at}
use Rattle.fault.specs.declared.Fault.{Fault}
use Rattle.fault.specs.declared.Refusal.{Refusal}
use Rattle.fault.specs.declared.Refusal.TheVariants.{WrongPhase, TooSoon}
use Rattle.chip.specs.Free.{FreeByReset}
use Rattle.chip.specs.Meaning.{Meaning, size, SameConfig}
use Rattle.chip.specs.Refused.{first_refusal}
use Rattle.chip.specs.Taken.{with_reset_registers}
use Rattle.chip.specs.declared.config.Config.{Config}
use Rattle.chip.specs.declared.state.Phase.{Phase}
use Rattle.chip.specs.declared.state.Phase.TheVariants.{Unwoken, Awake}
use Rattle.chip.specs.declared.state.State.{State}

abbrev pub is_unwoken : Phase → Bool
is_unwoken Unwoken = true
is_unwoken Awake = false

-- 13 unless the chip is awake, then 14 where the pulse is shorter than tRP
abbrev pub reset_refused : Config → State → ℕ → Option Refusal
reset_refused k s pulse =
    first_refusal ((is_unwoken s.phase, WrongPhase) ∷ (nat_lt pulse k.clock.trp, TooSoon) ∷ [])

-- the registers are those of the table and tRST is due; the latest low clocks and the counts stay
abbrev pub after_pulse : Config → State → Bool → State
after_pulse k s strobe = record (with_reset_registers k s) { strobe = strobe }

-- what a reset that is taken does
pub record Restarted (m : Meaning) (free : FreeByReset) (n : Meaning) : Type 0 where
  pub same : SameConfig m n
  pub state : n.state ≡ after_pulse m.config m.state free.strobe
  pub bytes : (a : ℕ) → a < size m.config → n.byte a ≡ free.byte a

abbrev pub ResetJudged : Option Refusal → Meaning → Result (Unit {0}) (Fault ℕ) → Meaning → Type 0
ResetJudged (Some e) m r n = (r ≡ Err (fault_at e 0)) × (n ≡ m)
ResetJudged None m r n = (r ≡ Ok tt) × ((free : FreeByReset) × Restarted m free n)

pub record Resets (m : Meaning) (pulse : ℕ) (r : Result (Unit {0}) (Fault ℕ)) (n : Meaning) : Type 0 where
  pub judged : ResetJudged (reset_refused m.config m.state pulse) m r n
