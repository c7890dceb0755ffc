-- A model is a chip. Assumes nothing.
use Rattle.std.proofs.Common.{◌≡◌, ℕ, zero, suc, ◌<◌, Bool, true, false, cond, List, map, length, get_or, Some, None, MatchBool, Option, Result, refl, ap, ⊎_elim, arith}
use Rattle.std.proofs.lemmas.Grind.{common_steps}
use Rattle.std.proofs.lemmas.List.FromFn.{length-map-range_with_len, get_or-map-range_with_len}
use Rattle.std.proofs.lemmas.Bool.{cases_eq, and_parts, cond_both}
use Rattle.std.specs.List.{range_with_len}
use Rattle.fault.specs.declared.Fault.{Fault}
use Rattle.fault.specs.declared.Refusal.{Refusal}
use Rattle.frame.specs.declared.burst.Burst.{Burst}
use Rattle.mask.specs.Masks.{masked}
use Rattle.chip.specs.Free.{FreeByFrame, Allowed}
use Rattle.chip.specs.Meaning.{size}
use Rattle.chip.specs.Refused.{refused}
use Rattle.chip.specs.Resets.{reset_refused, ResetJudged, Resets}
use Rattle.chip.specs.Sent.{Sent, sent, read, write, register_read, register_write, global_reset, Answer}
use Rattle.chip.specs.Taken.{address, written, stored, is_answered, answer_by, Fills, Filled, Taken, Judged, Sends}
use Rattle.chip.specs.declared.bus_frame.Frame.{Frame}
use Rattle.chip.specs.declared.bus_frame.Frame.TheVariants as frame
use Rattle.chip.specs.declared.config.Config.{Config}
use Rattle.chip.specs.declared.state.State.{State}
use Rattle.model.specs.Contents.{Contents, meaning, SameBuild}
use Rattle.model.specs.Latency.{strobe_stays, latency}
use Rattle.model.specs.Step.{after_frame, buffer_after, outcome_by, Steps, reset_outcome_by, Restarts}
use Rattle.model.specs.Store.{written_store, store_after}
use Rattle.model.specs.Wins.{LastWriteWins}

-- ---- the store after a write

module _ (place : ℕ → ℕ) (d k store : List ℕ) where
  put_length : (n : ℕ) → length (written_store place d k n store) ≡ length store
  put_length zero = refl
  put_length (suc i) = let so_far = put_length i in grind (arith, common_steps)

  pub put_written : (n a : ℕ) → a < length store → get_or (written_store place d k n store) a 0 ≡ written place d k n a (get_or store a 0)
  put_written zero a in_it = refl
  put_written (suc i) a in_it = let so_far = put_written i a in_it in let long = put_length i in grind (arith, common_steps)

  put_others : (n a : ℕ) → ((i : ℕ) → i < n → masked k i ≡ false → place i ≡ a → ⊥) → get_or (written_store place d k n store) a 0 ≡ get_or store a 0
  put_others zero a never = refl
  put_others (suc i) a never =
      let so_far = put_others i a (λ j h. never j (omega arith)) in let here = never i (omega arith) in grind (arith, common_steps)

  put_last : (n i : ℕ) → i < n → masked k i ≡ false → place i < length store → ((j : ℕ) → i < j → j < n → masked k j ≡ false → place j ≡ place i → ⊥) → get_or (written_store place d k n store) (place i) 0 ≡ get_or d i 0
  put_last zero i h plain room none = absurd (omega arith)
  put_last (suc m) i h plain room none =
      let long = put_length m in
      ⊎_elim
      (λ same. grind (arith, common_steps))
      (λ other.
      let before : i < m = omega arith in
      let so_far = put_last m i before plain room (λ j a b. none j a (omega arith)) in
      let here = none m before (omega arith) in
      grind (arith, common_steps))
      (cases_eq i m)

  pub last_write_wins : (n : ℕ) → LastWriteWins place d k store n (written_store place d k n store)
  last_write_wins n = record { long = put_length n; last = put_last n; others = put_others n }

-- ---- a frame that is taken

-- what a model leaves free comes to be what it does
abbrev does : Contents → Sent → FreeByFrame
does m f = record { strobe = strobe_stays m; latency = latency m; byte = λ a. get_or (store_after m f) a 0 }

allowed : (m : Contents) (f : Sent) → Allowed m.state (does m f)
allowed m f = record {
  strobe = λ is. (and_parts _ _ is).0;
  latency = record { least = grind (arith, common_steps); most = grind (arith, common_steps); full = λ is. grind (arith, common_steps) };
}

stored_after : (m : Contents) (f : Sent) (a : ℕ) → a < length m.store → get_or (store_after m f) a 0 ≡ stored m.config m.state f a (get_or m.store a 0)
stored_after m (read b s n) a in_it = refl
stored_after m (write b s d k) a in_it = put_written (address m.config m.state b s) d k m.store (length d) a in_it
stored_after m (register_read n) a in_it = refl
stored_after m (register_write n v) a in_it = refl
stored_after m global_reset a in_it = refl

module _ (c : Config) (st : State) (b : Burst) (a : ℕ) (byte : ℕ → ℕ) (old : List ℕ) where
  abbrev bytes : List ℕ
  bytes = map (λ i. byte (address c st b a i)) (range_with_len 0 (length old))

  fills : Fills c st b a (length old) byte old bytes
  fills = record {
    long = length-map-range_with_len _ 0 (length old);
    each = λ i h. get_or-map-range_with_len _ 0 (length old) i i 0 h (omega arith);
  }

  filled_read : (stays : Bool) → MatchBool stays (Fills c st b a (length old) byte old (cond stays bytes old)) (cond stays bytes old ≡ old)
  filled_read true = fills
  filled_read false = refl

filled : (m : Contents) (f : Frame) (old : List ℕ) → let s = sent f (length old) in Filled m.config m.state (is_answered (meaning (after_frame m s)) s) s (meaning (after_frame m s)).byte old (buffer_after m s old)
filled m (frame.Read b a) old = filled_read m.config m.state b a (λ x. get_or m.store x 0) old (strobe_stays m)
filled m (frame.Write b a d k) old = refl
filled m (frame.RegisterRead n) old = refl
filled m (frame.RegisterWrite n v) old = refl
filled m frame.GlobalReset old = refl

module _ (m : Contents) (fr : Frame) (old : List ℕ) (whole : length m.store ≡ size m.config) where
  abbrev f : Sent
  f = sent fr (length old)

  takes : Taken (meaning m) f (does m f) old (answer_by m.config m.state (is_answered (meaning (after_frame m f)) f) f) (meaning (after_frame m f)) (buffer_after m f old)
  takes = record {
    allowed = allowed m f;
    same = record { config = refl; refreshes = refl };
    state = refl;
    bytes = λ a in_it. cond_both _ _ _ (λ x. get_or (store_after m f) a 0 ≡ x) (λ _. stored_after m f a (omega arith)) (λ _. refl);
    answer = refl;
    buffer = filled m fr old;
  }

  -- refused or taken, as the model judges it
  judges : (n : Contents) (new : List ℕ) (r : Answer) (o : Option Refusal) → n ≡ (outcome_by o m f old).after → r ≡ (outcome_by o m f old).answer → new ≡ (outcome_by o m f old).buffer → Judged o (meaning m) f old r (meaning n) new
  judges n new r (Some e) after answer buffer = (answer, ap meaning after, buffer)
  judges n new r None after answer buffer = rw (after, answer, buffer) (does m f, takes)

  pub sends : (n : Contents) (gap : ℕ) (new : List ℕ) (r : Answer) → Steps m gap f old r n new → Sends (meaning m) gap f old r (meaning n) new
  sends n gap new r steps = record {
    judged = judges n new r (refused m.config m.state gap f) steps.after steps.answer steps.buffer;
  }

-- ---- a reset

reset_judges : (m n : Contents) (r : Result (Unit {0}) (Fault ℕ)) (o : Option Refusal) → n ≡ (reset_outcome_by o m).after → r ≡ (reset_outcome_by o m).answer → ResetJudged o (meaning m) r (meaning n)
reset_judges m n r (Some e) after answer = (answer, ap meaning after)
reset_judges m n r None after answer =
    rw after (
      answer,
      (
        record { strobe = true; byte = (meaning m).byte },
        record { same = record { config = refl; refreshes = refl }; state = refl; bytes = λ a in_it. refl },
      ),
    )

pub resets : (m n : Contents) (pulse : ℕ) (r : Result (Unit {0}) (Fault ℕ)) → Restarts m pulse r n → Resets (meaning m) pulse r (meaning n)
resets m n pulse r restarts =
    record { judged = reset_judges m n r (reset_refused m.config m.state pulse) restarts.after restarts.answer }

-- ---- what never changes

same_after : (o : Option Refusal) (m : Contents) (f : Sent) (old : List ℕ) → SameBuild m (outcome_by o m f old).after
same_after (Some e) m f old = record { config = refl; refresh_word = refl; strobe_count = refl }
same_after None m f old = record { config = refl; refresh_word = refl; strobe_count = refl }

same_after_reset : (o : Option Refusal) (m : Contents) → SameBuild m (reset_outcome_by o m).after
same_after_reset (Some e) m = record { config = refl; refresh_word = refl; strobe_count = refl }
same_after_reset None m = record { config = refl; refresh_word = refl; strobe_count = refl }

pub step_same : (m n : Contents) (gap : ℕ) (f : Sent) (old new : List ℕ) (r : Answer) → Steps m gap f old r n new → SameBuild m n
step_same m n gap f old new r steps = rw steps.after (same_after (refused m.config m.state gap f) m f old)

pub reset_same : (m n : Contents) (pulse : ℕ) (r : Result (Unit {0}) (Fault ℕ)) → Restarts m pulse r n → SameBuild m n
reset_same m n pulse r restarts = rw restarts.after (same_after_reset (reset_refused m.config m.state pulse) m)
