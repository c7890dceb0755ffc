-- The counts rise by what was sent. Assumes nothing.
use Rattle.std.proofs.Common.{◌≡◌, ℕ, ◌+◌, ◌^◌, ◌<◌, true, false, List, [], ◌∷◌, Some, None, Option, Result, sym, refl, ap, ◌∙◌, subst, arith}
use Rattle.std.proofs.lemmas.Bool.{false_from_ne_true}
use Rattle.fault.specs.declared.Fault.{Fault}
use Rattle.fault.specs.declared.Refusal.{Refusal}
use Rattle.frame.specs.Low.{saturated}
use Rattle.chip.specs.Sent.{Sent, read, write, register_read, register_write, global_reset, Event, sending, resetting, Answer}
use Rattle.chip.specs.Refused.{wakes}
use Rattle.chip.specs.Free.{FreeByFrame}
use Rattle.chip.specs.Taken.{after, Judged}
use Rattle.chip.specs.Meaning.{Meaning}
use Rattle.chip.specs.Resets.{ResetJudged}
use Rattle.chip.specs.Runs.{Does, IsWake, still, onward, unless_refused, frames_in, clocks_in, CountsFit, RisesBy, CountsRiseByWhatWasSent}
use Rattle.chip.specs.declared.config.Config.{Config}
use Rattle.chip.specs.declared.state.State.{State}

-- ---- a count that saturates

saturated_none : (x y : ℕ) → y ≡ x → y < 2 ^ 64 → y ≡ saturated (x + 0)
saturated_none x y same fits = omega arith

saturated_fits : (x y : ℕ) → x ≡ saturated y → x < 2 ^ 64
saturated_fits x y e = omega arith

saturated_twice : (x y z a b : ℕ) → y ≡ saturated (x + a) → z ≡ saturated (y + b) → z ≡ saturated (x + (a + b))
saturated_twice x y z a b p q = omega arith

-- ---- one event

after_frames : (k : Config) (s : State) (f : Sent) (free : FreeByFrame) → wakes f ≡ false → (after k s f free).frames ≡ saturated (s.frames + 1)
after_frames k s (read b a n) free never = refl
after_frames k s (write b a d m) free never = refl
after_frames k s (register_read n) free never = refl
after_frames k s (register_write n v) free never = refl
after_frames k s global_reset free never = cc

after_clocks : (k : Config) (s : State) (f : Sent) (free : FreeByFrame) → wakes f ≡ false → (after k s f free).clocks ≡ saturated (s.clocks + (after k s f free).latest_low)
after_clocks k s (read b a n) free never = refl
after_clocks k s (write b a d m) free never = refl
after_clocks k s (register_read n) free never = refl
after_clocks k s (register_write n v) free never = refl
after_clocks k s global_reset free never = cc

rises : (m n : Meaning) (s : State) → n.state ≡ s → s.frames ≡ saturated (m.state.frames + 1) → s.clocks ≡ saturated (m.state.clocks + s.latest_low) → RisesBy m 1 n.state.latest_low n
rises m n s is frames clocks = record {
  frames = ap (λ x. x.frames) is ∙ frames;
  clocks = subst (λ x. x.clocks ≡ saturated (m.state.clocks + x.latest_low)) (sym is) clocks;
}

-- counts that stay are in 64 bits
abbrev FitsStill : Meaning → Meaning → Type 0
FitsStill m n =
    (n.state.frames ≡ m.state.frames → n.state.frames < 2 ^ 64)
    × (n.state.clocks ≡ m.state.clocks → n.state.clocks < 2 ^ 64)

stays : (m n : Meaning) → FitsStill m n → n.state.frames ≡ m.state.frames → n.state.clocks ≡ m.state.clocks → RisesBy m 0 0 n
stays m n fit frames clocks = record { frames = saturated_none _ _ frames (fit.0 frames); clocks = saturated_none _ _ clocks (fit.1 clocks) }

stays_whole : (m n : Meaning) → FitsStill m n → n ≡ m → RisesBy m 0 0 n
stays_whole m n fit is = stays m n fit (ap (λ x. x.state.frames) is) (ap (λ x. x.state.clocks) is)

judged_rises : (o : Option Refusal) (m n : Meaning) (f : Sent) (old new : List ℕ) (r : Answer) → FitsStill m n → ((o ≡ None) × (wakes f ≡ true) → ⊥) → Judged o m f old r n new → RisesBy m (unless_refused o 1) (unless_refused o n.state.latest_low) n
judged_rises (Some e) m n f old new r fit never j = stays_whole m n fit j.1
judged_rises None m n f old new r fit never (free, t) =
    let still : wakes f ≡ false = false_from_ne_true (wakes f) (λ w. never (refl, w)) in
    rises m n _ t.state (after_frames m.config m.state f free still) (after_clocks m.config m.state f free still)

reset_rises : (o : Option Refusal) (m n : Meaning) (r : Result (Unit {0}) (Fault ℕ)) → FitsStill m n → ResetJudged o m r n → RisesBy m 0 0 n
reset_rises (Some e) m n r fit j = stays_whole m n fit j.1
reset_rises None m n r fit (ok, (strobe, t)) = stays m n fit (ap (λ x. x.frames) t.state) (ap (λ x. x.clocks) t.state)

rises_by : (m n : Meaning) (e : Event) → Does m e n → FitsStill m n → (IsWake m e → ⊥) → RisesBy m (frames_in m e n) (clocks_in m e n) n
rises_by m n (sending gap f old r new) d fit never = judged_rises _ m n f old new r fit never d.judged
rises_by m n (resetting pulse r) d fit never = reset_rises _ m n r fit d.judged

-- from a chip whose counts are in 64 bits, or to one
pub risen : (m n : Meaning) (e : Event) → Does m e n → CountsFit m → (IsWake m e → ⊥) → RisesBy m (frames_in m e n) (clocks_in m e n) n
risen m n e d fit =
    rises_by m n e d (λ same. subst (λ x. x < 2 ^ 64) (sym same) fit.frames, λ same. subst (λ x. x < 2 ^ 64) (sym same) fit.clocks)

pub risen_to : (m n : Meaning) (e : Event) → Does m e n → CountsFit n → (IsWake m e → ⊥) → RisesBy m (frames_in m e n) (clocks_in m e n) n
risen_to m n e d fit = rises_by m n e d (λ same. fit.frames, λ same. fit.clocks)

-- the state that a chip answers has counts in 64 bits
pub fit_by : (n : Meaning) (s : State) → s ≡ n.state → s.frames < 2 ^ 64 → s.clocks < 2 ^ 64 → CountsFit n
fit_by n s is frames clocks =
    record { frames = subst (λ x. x.frames < 2 ^ 64) is frames; clocks = subst (λ x. x.clocks < 2 ^ 64) is clocks }

-- ---- a run

pub still_fit : (m n : Meaning) (a b : ℕ) → RisesBy m a b n → CountsFit n
still_fit m n a b h = record { frames = saturated_fits _ _ h.frames; clocks = saturated_fits _ _ h.clocks }

pub risen_on : (m n p : Meaning) (a b c d : ℕ) → RisesBy m a b n → RisesBy n c d p → RisesBy m (a + c) (b + d) p
risen_on m n p a b c d g h = record {
  frames = saturated_twice _ _ _ a c g.frames h.frames;
  clocks = saturated_twice _ _ _ b d g.clocks h.clocks;
}

pub counts_rise_by_what_was_sent : CountsRiseByWhatWasSent
counts_rise_by_what_was_sent m n [] still fit t = stays m m (λ same. fit.frames, λ same. fit.clocks) refl refl
counts_rise_by_what_was_sent m n (s ∷ rest) (onward d r) fit (never, t) =
    let one = risen m s.after s.event d fit never in
    risen_on m s.after n _ _ _ _ one (counts_rise_by_what_was_sent s.after n rest r (still_fit m s.after _ _ one) t)
