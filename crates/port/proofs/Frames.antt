-- What is known of a chip from before a frame, or a pulse, to after it: all that the proofs of a port rest on.
use Rattle.std.proofs.Common.{◌≡◌, ℕ, ◌+◌, ◌≤◌, ◌<◌, true, false, not, Ok, sym, refl, ap, ◌∙◌, subst, arith}
use Rattle.std.proofs.lemmas.Bool.{cond-true, and_from}
use Rattle.frame.specs.Low.{saturated}
use Rattle.chip.specs.Chains.{Exchange, IsExchange}
use Rattle.chip.specs.Free.{FreeByFrame}
use Rattle.chip.specs.LowClocks.{low_for}
use Rattle.chip.specs.Meaning.{Meaning, size, most_low, refreshed, strobe_at, register_strobe, SameConfig}
use Rattle.chip.specs.Refused.{wakes}
use Rattle.chip.specs.Resets.{is_unwoken, ResetJudged}
use Rattle.chip.specs.Runs.{CountsFit, RisesBy}
use Rattle.chip.specs.Sent.{Event, Sent, read, write, register_read, register_write, global_reset}
use Rattle.chip.specs.Taken.{reset_value, counted, after, stored, is_answered, answer_by, Filled}
use Rattle.chip.specs.declared.bus_frame.Reply.TheVariants.{Done}
use Rattle.chip.specs.declared.config.Config.{Config}
use Rattle.chip.specs.declared.state.Phase.{Phase}
use Rattle.chip.specs.declared.state.Phase.TheVariants.{Unwoken, Awake}
use Rattle.chip.specs.declared.state.State.{State}
use Rattle.chip.proofs.Chains.{taken_by, one_rises, one_short}
use Rattle.chip.proofs.Tests.{none_first, wakes_not}
use Rattle.port.specs.Acts.{IsPulse}
use Rattle.port.specs.Carried.{set_by}

-- a frame that an awake chip takes
pub record FrameFacts (m : Meaning) (x : Exchange) (n : Meaning) : Type 0 where
  pub same : SameConfig m n
  pub awake : n.state.phase ≡ Awake
  pub mr0 : n.state.mr0 ≡ set_by x.frame 0 m.state.mr0
  pub mr4 : n.state.mr4 ≡ set_by x.frame 4 m.state.mr4
  pub mr8 : n.state.mr8 ≡ set_by x.frame 8 m.state.mr8
  -- the strobe only goes
  pub strobe : (a : ℕ) → strobe_at n a ≡ true → strobe_at m a ≡ true
  pub register_strobe : register_strobe n ≡ true → register_strobe m ≡ true
  -- a byte that is refreshed before and after, where the strobe is
  pub byte : (a : ℕ) → a < size m.config → strobe_at n a ≡ true → refreshed m a ≡ true → refreshed n a ≡ true
      → n.byte a ≡ stored m.config m.state x.frame a (m.byte a)
  pub answer : x.answer ≡ answer_by m.config m.state (is_answered n x.frame) x.frame
  pub buffer : Filled m.config m.state (is_answered n x.frame) x.frame n.byte x.before x.after
  pub low : x.low ≤ most_low m.config
  pub counts : CountsFit m → RisesBy m 1 x.low n
  pub fit : CountsFit n

-- a pulse that a chip takes
pub record PulseFacts (m n : Meaning) : Type 0 where
  pub same : SameConfig m n
  pub awake : n.state.phase ≡ Awake
  pub mr0 : n.state.mr0 ≡ reset_value m.config.make 0
  pub mr4 : n.state.mr4 ≡ reset_value m.config.make 4
  pub mr8 : n.state.mr8 ≡ reset_value m.config.make 8
  pub frames : n.state.frames ≡ m.state.frames
  pub clocks : n.state.clocks ≡ m.state.clocks

-- a global reset that wakes a chip
pub record WakeFacts (m : Meaning) (x : Exchange) (n : Meaning) : Type 0 where
  pub same : SameConfig m n
  pub awake : n.state.phase ≡ Awake
  pub mr0 : n.state.mr0 ≡ reset_value m.config.make 0
  pub mr4 : n.state.mr4 ≡ reset_value m.config.make 4
  pub mr8 : n.state.mr8 ≡ reset_value m.config.make 8
  pub frames : n.state.frames ≡ 0
  pub clocks : n.state.clocks ≡ 0
  pub answer : x.answer ≡ Ok Done
  pub low : x.low ≤ most_low m.config

-- ---- a frame

-- the state after a frame that does not wake the chip: registers as it sets them, and counted
frame_state : (k : Config) (s : State) (f : Sent) (free : FreeByFrame) → wakes f ≡ false
    → after k s f free ≡ counted (record s { mr0 = set_by f 0 s.mr0; mr4 = set_by f 4 s.mr4; mr8 = set_by f 8 s.mr8 })
    (low_for k s f free.latency) free.strobe
frame_state k s (read b a n) free never = refl
frame_state k s (write b a d mask) free never = refl
frame_state k s (register_read r) free never = refl
frame_state k s (register_write r v) free never = refl
frame_state k s global_reset free never = cc

module _ {X : Type 0} (meaning : X → Meaning) (gives : X → Event → X → Type 0) where
  -- the facts of a frame, for one of an awake chip
  pub frame_facts : (c d : X) (x : Exchange) → IsExchange meaning gives c x d → (meaning c).state.phase ≡ Awake
      → FrameFacts (meaning c) x (meaning d)
  frame_facts c d x one awake =
      let m = meaning c in
      let n = meaning d in
      let (free, t) = taken_by m n x.gap x.frame x.before x.after x.answer one.happens.does one.taken in
      let never = wakes_not m.config m.state x.gap x.frame awake one.taken in
      let state = t.state ∙ frame_state m.config m.state x.frame free never in
      let strobe : n.state.strobe ≡ true → m.state.strobe ≡ true =
      λ there. t.allowed.strobe (sym (ap (λ s. s.strobe) state) ∙ there) in
      let frames : n.state.frames ≡ saturated (m.state.frames + 1) = ap (λ s. s.frames) state in
      let clocks : n.state.clocks ≡ saturated (m.state.clocks + low_for m.config m.state x.frame free.latency) =
      ap (λ s. s.clocks) state in
      record {
        same = t.same;
        awake = ap (λ s. s.phase) state ∙ awake;
        mr0 = ap (λ s. s.mr0) state;
        mr4 = ap (λ s. s.mr4) state;
        mr8 = ap (λ s. s.mr8) state;
        strobe = λ a. strobe;
        register_strobe = strobe;
        byte = λ a inside there before after.
            t.bytes a inside
            ∙ cond-true _ _ _ (and_from _ _ (ap not never) (and_from _ _ there (and_from _ _ before after)));
        answer = t.answer;
        buffer = t.buffer;
        low = one_short meaning gives c x d one;
        counts = one_rises meaning gives c x d one awake;
        fit = record { frames = omega arith; clocks = omega arith };
      }

-- ---- a pulse

-- what is not unwoken is awake
awake_by : (p : Phase) → is_unwoken p ≡ false → p ≡ Awake
awake_by Unwoken e = cc
awake_by Awake e = refl

module _ {X : Type 0} (meaning : X → Meaning) (gives : X → Event → X → Type 0) where
  -- the facts of a pulse, for one that a chip takes
  pub pulse_facts : (c d : X) (n : ℕ) → IsPulse meaning gives c n d → PulseFacts (meaning c) (meaning d)
  pulse_facts c d n one =
      let judged = subst (λ o. ResetJudged o (meaning c) (Ok tt) (meaning d)) one.taken one.happens.does.judged in
      let t = judged.1.1 in
      record {
        same = t.same;
        awake = ap (λ s. s.phase) t.state ∙ awake_by (meaning c).state.phase (none_first _ _ _ one.taken).0;
        mr0 = ap (λ s. s.mr0) t.state;
        mr4 = ap (λ s. s.mr4) t.state;
        mr8 = ap (λ s. s.mr8) t.state;
        frames = ap (λ s. s.frames) t.state;
        clocks = ap (λ s. s.clocks) t.state;
      }

-- ---- a global reset

module _ {X : Type 0} (meaning : X → Meaning) (gives : X → Event → X → Type 0) where
  -- the facts of a wake frame
  pub wake_facts : (c d : X) (x : Exchange) → IsExchange meaning gives c x d → x.frame ≡ global_reset
      → WakeFacts (meaning c) x (meaning d)
  wake_facts c d x one is =
      let m = meaning c in
      let n = meaning d in
      let (free, t) = taken_by m n x.gap x.frame x.before x.after x.answer one.happens.does one.taken in
      let state = t.state ∙ ap (λ f. after m.config m.state f free) is in
      record {
        same = t.same;
        awake = ap (λ s. s.phase) state;
        mr0 = ap (λ s. s.mr0) state;
        mr4 = ap (λ s. s.mr4) state;
        mr8 = ap (λ s. s.mr8) state;
        frames = ap (λ s. s.frames) state;
        clocks = ap (λ s. s.clocks) state;
        answer = t.answer ∙ ap (λ f. answer_by m.config m.state (is_answered n f) f) is;
        low = one_short meaning gives c x d one;
      }
