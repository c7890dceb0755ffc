-- A scrambler over an exact chip is exact: what its traits ask of it. Assumes nothing.
use Rattle.std.specs.Prelude.{◌≡◌, ℕ, List, Ok, Err, refl}
use Rattle.std.proofs.Common.{sym, ap, ◌∙◌, subst}
use Rattle.chip.specs.Exact.{OneOutcome, SameOutcome}
use Rattle.chip.specs.Meaning.{Meaning, Lawful, SameConfig, Composes}
use Rattle.chip.specs.Sent.{Sent, read, write, register_read, register_write, global_reset, Event, sending, Answer, FitsBuffer, read_bytes}
use Rattle.chip.specs.Taken.{address}
use Rattle.scrambler.specs.Scramblers.{scrambler, combined, combined_frame, combined_back, Scrambled}

pub lawful_scrambler : (key : List ℕ) (m : Meaning) → Lawful m → Lawful (scrambler key m)
lawful_scrambler key m law = record { full = law.full; inside = law.inside; room = law.room }

pub same_config_above : (key key' : List ℕ) (m n : Meaning) → SameConfig m n → SameConfig (scrambler key m)
    (scrambler key' n)
same_config_above key key' m n same = record { config = same.config; refreshes = same.refreshes }

-- what stays the same of a key and of a chip composes where it does of the chip
pub same_composes : {W X : Type 0} (key : W → List ℕ) (chip : W → X) (same : X → X → Type 0) → Composes same
    → Composes (λ w v. (key v ≡ key w) × same (chip w) (chip v))
same_composes key chip same below = record {
  none = λ w. (refl, below.none (chip w));
  two = λ u v w p q. (q.0 ∙ p.0, below.two (chip u) (chip v) (chip w) p.1 q.1);
}

-- ---- one outcome

combined_fits : (key : List ℕ) (m : Meaning) (f : Sent) (buffer : List ℕ) → FitsBuffer f buffer
    → FitsBuffer (combined_frame key m f) buffer
combined_fits key m (read b a n) buffer fits = fits
combined_fits key m (write b a d k) buffer fits = tt
combined_fits key m (register_read r) buffer fits = tt
combined_fits key m (register_write r v) buffer fits = tt
combined_fits key m global_reset buffer fits = tt

-- what was read is what was read below, combined
came_up : (key : List ℕ) (m n : Meaning) (f : Sent) (r : Answer) (buffer buffer' : List ℕ)
    → read_bytes (combined_frame key m f) r buffer ≡ read_bytes (combined_frame key m f) r buffer'
    → read_bytes f r (combined_back key n f r buffer) ≡ read_bytes f r (combined_back key n f r buffer')
came_up key m n (read b a c) (Ok x) buffer buffer' same = ap (combined key (address n.config n.state b a)) same
came_up key m n (read b a c) (Err e) buffer buffer' same = refl
came_up key m n (write b a d k) r buffer buffer' same = refl
came_up key m n (register_read k) r buffer buffer' same = refl
came_up key m n (register_write k v) r buffer buffer' same = refl
came_up key m n global_reset r buffer buffer' same = refl

-- seen through projections, so that a struct and its view are served alike
module _ {W X : Type 0} (key : W → List ℕ) (chip : W → X) (meaning : X → Meaning)
    (gives : X → Event → X → Type 0) (same : X → X → Type 0) where
  abbrev alike : W → W → Type 0
  alike w v = (key w ≡ key v) × same (chip w) (chip v)

  abbrev does : W → Event → W → Type 0
  does w e v = Scrambled meaning gives (key w) (chip w) e (key v) (chip v)

  frame_outcome : OneOutcome meaning gives same → (c d p q : W) (gap : ℕ) (f : Sent) (old older new newer : List ℕ)
      (r s : Answer) → alike c d → FitsBuffer f old → FitsBuffer f older → does c (sending gap f old r new) p
      → does d (sending gap f older s newer) q → SameOutcome alike f old older p q r s new newer
  frame_outcome one c d p q gap f old older new newer r s (keys, shows) fits fits' (stays, below) (stays', below') =
      let down = combined_frame (key c) (meaning (chip c)) f in
      let means = one.means (chip c) (chip d) shows in
      let same_down : down ≡ combined_frame (key d) (meaning (chip d)) f = λ i. combined_frame (keys i) (means i) f in
      let sends' =
      subst (λ g. gives (chip d) (sending gap g older s below'.buffer) (chip q)) (sym same_down) below'.sends.own in
      let o =
      one.of_frame (chip c) (chip d) (chip p) (chip q) gap down old older below.buffer below'.buffer r s shows
      (combined_fits (key c) (meaning (chip c)) f old fits) (combined_fits (key c) (meaning (chip c)) f older fits')
      below.sends.own sends' in
      let ends = one.means (chip p) (chip q) o.after in
      let mine = combined_back (key c) (meaning (chip p)) f in
      let same_back : combined_back (key d) (meaning (chip q)) f ≡ mine =
      λ i. combined_back (sym keys i) (sym ends i) f in
      let back' : newer ≡ mine r below'.buffer =
      below'.comes_back ∙ ap (λ g. g s below'.buffer) same_back ∙ ap (λ x. mine x below'.buffer) (sym o.answer) in
      let bytes : read_bytes down r below.buffer ≡ read_bytes down r below'.buffer =
      o.bytes ∙ ap (λ x. read_bytes down x below'.buffer) (sym o.answer) in
      record {
        after = (stays ∙ keys ∙ sym stays', o.after);
        answer = o.answer;
        bytes =
            ap (read_bytes f r) below.comes_back
            ∙ came_up (key c) (meaning (chip c)) (meaning (chip p)) f r below.buffer below'.buffer bytes
            ∙ ap (read_bytes f r) (sym back')
            ∙ ap (λ x. read_bytes f x newer) o.answer;
        buffer = λ e. below.comes_back ∙ ap (mine r) (o.buffer e) ∙ sym back';
      }

  pub scrambler_outcome : OneOutcome meaning gives same
      → OneOutcome (λ w. scrambler (key w) (meaning (chip w))) does alike
  scrambler_outcome one = record {
    itself = λ w. (refl, one.itself (chip w));
    means = λ w v is i. scrambler (is.0 i) (one.means (chip w) (chip v) is.1 i);
    of_frame = frame_outcome one;
    of_pulse = λ c d p q pulse r s is below below'.
        let o = one.of_pulse (chip c) (chip d) (chip p) (chip q) pulse r s is.1 below.1.own below'.1.own in
        ((below.0 ∙ is.0 ∙ sym below'.0, o.0), o.1);
  }
