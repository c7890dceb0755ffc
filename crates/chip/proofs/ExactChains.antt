-- Where each event has one outcome, a list of frames has. Assumes nothing.
use Rattle.std.proofs.Common.{◌≡◌, [], ◌∷◌, map, sym, refl, ap, ◌∙◌, subst}
use Rattle.chip.specs.Chains.{done, next}
use Rattle.chip.specs.Exact.{OneOutcome, frame_of, came_of, OneOutcomeOfChains}
use Rattle.chip.specs.Meaning.{Meaning}
use Rattle.chip.specs.Refused.{least_gap}
use Rattle.chip.specs.Sent.{Event, sending, FitsBuffer, read_bytes}

module _ {X : Type 0} (meaning : X → Meaning) (gives : X → Event → X → Type 0) (same : X → X → Type 0) (one : OneOutcome meaning gives same) where
  pub one_outcome_of_chains : OneOutcomeOfChains meaning gives same
  one_outcome_of_chains c d p q [] [] s e done done = (s, refl)
  one_outcome_of_chains c d p q [] (y ∷ ys) s e done (next two more) = cc
  one_outcome_of_chains c d p q (x ∷ xs) [] s e (next fst rest) done = cc
  one_outcome_of_chains c d p q (x ∷ xs) (y ∷ ys) s e (next {d = a} fst rest) (next {d = b} two more) =
      let frames : x.frame ≡ y.frame = cc in
      let frames_left : map frame_of xs ≡ map frame_of ys = cc in
      let gaps : x.gap ≡ y.gap = fst.soonest ∙ ap (λ m. least_gap m.config m.state) (one.means c d s) ∙ sym two.soonest in
      let own = subst (λ g. gives d (sending g x.frame y.before y.answer y.after) b) (sym gaps)
      (subst (λ f. gives d (sending y.gap f y.before y.answer y.after) b) (sym frames) two.happens.own) in
      let fits = subst (λ f. FitsBuffer f y.before) (sym frames) two.fits in
      let o = one.of_frame c d a b x.gap x.frame x.before y.before x.after y.after x.answer y.answer s fst.fits fits fst.happens.own own in
      let lows : x.low ≡ y.low = fst.low ∙ ap (λ m. m.state.latest_low) (one.means a b o.after) ∙ sym two.low in
      let bytes = o.bytes ∙ ap (λ f. read_bytes f y.answer y.after) frames in
      let came : came_of x ≡ came_of y = λ i. record { answer = o.answer i; bytes = bytes i; low = lows i } in
      let (ends, left) = one_outcome_of_chains a b p q xs ys o.after frames_left rest more in
      (ends, λ i. came i ∷ left i)
