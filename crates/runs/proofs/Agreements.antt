-- A scoreboard agrees with a chip: where the strobe is there, each byte that it has is refreshed and held.
use Rattle.std.proofs.Common.{◌≡◌, ℕ, ◌<◌, true, List, [], ◌∷◌, Some, sym, refl, ap, ◌∙◌, subst}
use Rattle.chip.specs.Meaning.{Meaning, size, refreshed, strobe_at}
use Rattle.chip.specs.Sent.{Sent, read, register_read, register_write}
use Rattle.chip.specs.Taken.{stored}
use Rattle.chip.specs.declared.config.Config.{Config}
use Rattle.chip.specs.declared.state.State.{State}
use Rattle.frame.specs.declared.burst.Burst.{Burst}
use Rattle.register.specs.Registers.{mr4}
use Rattle.port.specs.Acts.{Act}
use Rattle.port.specs.Plans.{send}
use Rattle.runs.specs.Scoreboards.{Scoreboard, blank}
use Rattle.runs.proofs.Courses.{Effect, Course, alone}
use Rattle.port.specs.Carried.{set_by}

-- address a is there, is refreshed, and holds b
pub record Holds (m : Meaning) (a b : ℕ) : Type 0 where
  pub there : a < size m.config
  pub refreshed : refreshed m a ≡ true
  pub byte : m.byte a ≡ b

-- while the strobe is there, the chip holds each byte that the scoreboard has
pub record Agrees (board : Scoreboard) (m : Meaning) : Type 0 where
  pub holds : (a b : ℕ) → strobe_at m a ≡ true → board a ≡ Some b → Holds m a b

-- a scoreboard that has none
pub blank_agrees : (m : Meaning) → Agrees blank m
blank_agrees m = record { holds = λ a b strobe is. cc }

-- what is there and refreshed holds its byte
pub holds_own : (m : Meaning) (a : ℕ) → a < size m.config → refreshed m a ≡ true → Holds m a (m.byte a)
holds_own m a there is = record { there = there; refreshed = is; byte = refl }

-- ---- over a frame

-- a byte that is refreshed before and after a frame
pub over_frame : {m n : Meaning} {f : Sent} {act : Act} {a b : ℕ} → Effect m f act n → Holds m a b
    → strobe_at n a ≡ true → refreshed n a ≡ true → Holds n a (stored m.config m.state f a b)
over_frame {m} {n} {f} {act} {a} {b} does was strobe is = record {
  there = subst (λ k. a < size k) (sym does.same.config) was.there;
  refreshed = is;
  byte = does.byte a was.there strobe was.refreshed is ∙ ap (stored m.config m.state f a) was.byte;
}

-- a frame that leaves the coverage as it is
abbrev pub LeavesCoverage : Sent → Type 0
LeavesCoverage f = (v : ℕ) → set_by f 4 v ≡ v

-- such a frame leaves what is refreshed
pub refreshed_still : {m n : Meaning} {f : Sent} {act : Act} → Effect m f act n → LeavesCoverage f → (a : ℕ)
    → refreshed n a ≡ refreshed m a
refreshed_still {m} {n} does leaves a =
    let same : n.state.mr4 ≡ m.state.mr4 = does.mr4 ∙ leaves m.state.mr4 in
    λ i. does.same.refreshes i (mr4 (same i)).coverage a

-- ---- over a frame that changes no byte

-- a frame that leaves the coverage and the bytes as they are
pub record IsQuiet (f : Sent) : Type 0 where
  pub coverage : LeavesCoverage f
  pub bytes : (k : Config) (s : State) (a old : ℕ) → stored k s f a old ≡ old

-- a memory read
pub quiet_read : (b : Burst) (a n : ℕ) → IsQuiet (read b a n)
quiet_read b a n = record { coverage = λ v. refl; bytes = λ k s x old. refl }

-- a register read
pub quiet_register_read : (r : ℕ) → IsQuiet (register_read r)
quiet_register_read r = record { coverage = λ v. refl; bytes = λ k s x old. refl }

-- a write of MR0
pub quiet_set_0 : (v : ℕ) → IsQuiet (register_write 0 v)
quiet_set_0 v = record { coverage = λ w. refl; bytes = λ k s x old. refl }

-- a write of MR8
pub quiet_set_8 : (v : ℕ) → IsQuiet (register_write 8 v)
quiet_set_8 v = record { coverage = λ w. refl; bytes = λ k s x old. refl }

-- what is held before it is held after it
holds_still : {m n : Meaning} {f : Sent} {act : Act} {a b : ℕ} → Effect m f act n → IsQuiet f → Holds m a b
    → strobe_at n a ≡ true → Holds n a b
holds_still {m} {n} {f} {act} {a} {b} does quiet was strobe =
    let is = refreshed_still does quiet.coverage a ∙ was.refreshed in
    subst (Holds n a) (quiet.bytes m.config m.state a b) (over_frame does was strobe is)

-- a scoreboard that agrees before it agrees after it
pub agrees_still : {board : Scoreboard} {m n : Meaning} {f : Sent} {act : Act} → Effect m f act n → IsQuiet f
    → Agrees board m → Agrees board n
agrees_still does quiet agrees =
    record { holds = λ a b strobe is. holds_still does quiet (agrees.holds a b (does.strobe a strobe) is) strobe }

-- the same of the one act of a plan
pub alone_still : {board : Scoreboard} {m o : Meaning} (f : Sent) {acts : List Act} → IsQuiet f → Agrees board m
    → Course m (send f ∷ []) acts o → Agrees board o
alone_still f quiet agrees course = agrees_still (alone course).does quiet agrees
