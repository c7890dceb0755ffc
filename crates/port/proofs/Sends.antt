-- One frame, and one pulse: that a chip takes it, and how long a frame is low.
use Rattle.std.proofs.Common.{◌≡◌, ℕ, ◌+◌, ◌*◌, ◌/◌, ◌%◌, ◌≤◌, ◌<◌, ◌==◌, ◌||◌, inl, inr, Bool, true, false, not, List, [], ◌∷◌, length, None, Ok, Result, refl, sym, ap, ◌∙◌, subst, arith}
use Rattle.std.proofs.lemmas.Bool.{or_from, le-ltb, ne_eqb, lt-leb, eqb-true, cases_eq}
use Rattle.std.proofs.lemmas.List.Elements.{All-head}
use Rattle.clock.specs.Times.{clocks}
use Rattle.fault.specs.declared.Fault.{Fault}
use Rattle.fault.specs.declared.Refusal.{Refusal}
use Rattle.chip.specs.Chains.{Exchange, IsExchange, done, next}
use Rattle.chip.specs.Exchanges.{least_gap_of}
use Rattle.chip.specs.Meaning.{Meaning, Lawful, size, most_low, read_latency}
use Rattle.chip.specs.Refused.{first_refusal, takes, wakes, is_bad_start, bad_start, bad_count, bad_register, too_long, least_gap}
use Rattle.chip.specs.Resets.{reset_refused, Resets, ResetJudged, is_unwoken}
use Rattle.chip.specs.Sent.{Sent, Event, resetting, read, register_read, register_write, global_reset}
use Rattle.chip.specs.declared.config.Config.{Config}
use Rattle.chip.specs.declared.state.Phase.TheVariants.{Unwoken, Awake}
use Rattle.chip.specs.declared.state.State.{State}
use Rattle.register.specs.Registers.{accepts, readable}
use Rattle.frame.specs.declared.burst.Burst.{Burst}
use Rattle.port.specs.Tests.{is_line}
use Rattle.port.specs.Acts.{IsPulse}
use Rattle.port.specs.Carried.{IsFit}
use Rattle.chip.specs.Sizes.{most_clocks}
use Rattle.chip.proofs.Most.{tcem_most}
use Rattle.chip.proofs.Chains.{every_chain}

-- ---- how long CE# is low

module _ {X : Type 0} (meaning : X → Meaning) (gives : X → Event → X → Type 0) where
  -- a frame is low for no longer than any chip allows
  pub low_most : (c d : X) (x : Exchange) → IsExchange meaning gives c x d → x.low ≤ most_clocks
  low_most c d x one =
      let short = All-head (λ (y : Exchange). y.low ≤ most_low (meaning c).config) x []
      (every_chain meaning gives c d (x ∷ []) (next one done)).short in
      omega (arith, short, tcem_most (meaning c).config.clock)

-- the bytes of a cache line
line_bytes : (n : ℕ) → is_line n ≡ true → (0 < n) × (n ≤ 64)
line_bytes n line = elim (cases_eq n 16) [
  | inl is ↦ (omega arith, omega arith)
  | inr not_16 ↦ elim (cases_eq n 32) [
    | inl is ↦ (omega arith, omega arith)
    | inr not_32 ↦
        let not_first = ap (λ b. b || ((n == 32) || (n == 64))) (ne_eqb n 16 not_16) in
        let not_second = ap (λ b. b || (n == 64)) (ne_eqb n 32 not_32) in
        let is : n ≡ 64 = eqb-true n 64 (sym (not_first ∙ not_second) ∙ line) in
        (omega arith, omega arith)
  ]
]

-- ---- frames that a chip takes

-- the first test does not hold, and none of the others
passes : (t : Bool) (r : Refusal) (rest : List (Bool × Refusal)) → t ≡ false → first_refusal rest ≡ None
    → first_refusal ((t, r) ∷ rest) ≡ None
unfolding first_refusal
passes true r rest e more = cc
passes false r rest e more = more

-- no tests refuse nothing
none : first_refusal [] ≡ None
unfolding first_refusal
none = refl

-- a frame that the phase takes, with no test against it
fit_in : (m : Meaning) (f : Sent) → takes m.state.phase (wakes f) ≡ true → bad_start m.config f ≡ false
    → bad_count f ≡ false → too_long m.config m.state f ≡ false → bad_register f ≡ false → IsFit m f
fit_in m f phase start count length register =
    passes _ _ _ (ap not phase)
    (passes _ _ _ (le-ltb (least_gap m.config m.state) (least_gap_of m) (omega arith))
    (passes _ _ _ start (passes _ _ _ count (passes _ _ _ length (passes _ _ _ register none)))))

-- of an awake chip
pub fit : (m : Meaning) (f : Sent) → m.state.phase ≡ Awake → wakes f ≡ false → bad_start m.config f ≡ false
    → bad_count f ≡ false → too_long m.config m.state f ≡ false → bad_register f ≡ false → IsFit m f
fit m f awake sleeps = fit_in m f (ap (λ p. takes p (wakes f)) awake ∙ ap not sleeps)

-- a register write
pub fit_register_write : (m : Meaning) (r v : ℕ) → Lawful m → m.state.phase ≡ Awake → accepts r v ≡ true
    → IsFit m (register_write r v)
fit_register_write m r v lawful awake accepted =
    fit m (register_write r v) awake refl refl refl (le-ltb _ _ (omega (arith, lawful.room))) (ap not accepted)

-- a register read, with the latency that the clock needs
pub fit_register_read : (m : Meaning) (r : ℕ) → Lawful m → m.state.phase ≡ Awake
    → read_latency m.state ≡ m.config.clock.lc → readable r ≡ true → IsFit m (register_read r)
fit_register_read m r lawful awake latency accepted =
    let low : 3 + clocks (read_latency m.state) + 1 ≤ most_low m.config =
    subst (λ l. 3 + clocks l + 1 ≤ most_low m.config) (sym latency) (omega (arith, lawful.room)) in
    fit m (register_read r) awake refl refl refl (le-ltb _ _ low) (ap not accepted)

-- a read of a cache line, with the latency that the clock needs
pub fit_line : (m : Meaning) (b : Burst) (a n : ℕ) → Lawful m → m.state.phase ≡ Awake
    → read_latency m.state ≡ m.config.clock.lc → is_line n ≡ true → a % 2 ≡ 0 → a < size m.config
    → IsFit m (read b a n)
fit_line m b a n lawful awake latency line even inside =
    let (some, few) = line_bytes n line in
    let low : 3 + 2 * clocks (read_latency m.state) + (n + 1) / 2 ≤ most_low m.config =
    subst (λ l. 3 + 2 * clocks l + (n + 1) / 2 ≤ most_low m.config) (sym latency) (omega (arith, lawful.room)) in
    let start : is_bad_start m.config a ≡ false =
    or_from _ _ (ne_eqb (a % 2) 1 (omega arith)) (lt-leb (size m.config) a inside) in
    fit m (read b a n) awake refl start (ne_eqb n 0 (omega arith)) (le-ltb _ _ low) refl

-- a global reset of a chip that is not awake
pub fit_global_reset : (m : Meaning) → Lawful m → m.state.phase ≡ Unwoken → IsFit m global_reset
fit_global_reset m lawful unwoken =
    fit_in m global_reset (ap (λ p. takes p true) unwoken) refl refl (le-ltb _ _ (omega (arith, lawful.room))) refl

-- ---- a pulse that a chip takes

-- no test of a pulse of tRP on an awake chip holds
fit_pulse : (k : Config) (s : State) → s.phase ≡ Awake → reset_refused k s k.clock.trp ≡ None
fit_pulse k s awake = passes _ _ _ (ap is_unwoken awake) (passes _ _ _ (le-ltb _ _ (omega arith)) none)

module _ {X : Type 0} (meaning : X → Meaning) (gives : X → Event → X → Type 0) where
  -- a pulse of tRP on an awake chip is taken
  pub pulsed : (c d : X) (n : ℕ) (r : Result (Unit {0}) (Fault ℕ)) → n ≡ (meaning c).config.clock.trp
      → gives c (resetting n r) d → Resets (meaning c) n r (meaning d) → (meaning c).state.phase ≡ Awake
      → IsPulse meaning gives c (meaning c).config.clock.trp d
  pulsed c d n r is own does awake =
      let trp = (meaning c).config.clock.trp in
      let taken = fit_pulse (meaning c).config (meaning c).state awake in
      let resets : Resets (meaning c) trp r (meaning d) = subst (λ k. Resets (meaning c) k r (meaning d)) is does in
      let ok : r ≡ Ok tt = (subst (λ o. ResetJudged o (meaning c) r (meaning d)) taken resets.judged).0 in
      record {
        happens = record {
          own = subst (λ a. gives c (resetting trp a) d) ok (subst (λ k. gives c (resetting k r) d) is own);
          does = subst (λ a. Resets (meaning c) trp a (meaning d)) ok resets;
        };
        taken = taken;
      }
