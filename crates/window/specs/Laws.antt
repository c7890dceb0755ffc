-- A window over a chip is a chip, and exact where that is: what its traits ask of it. Assumes nothing.
use Rattle.std.specs.Prelude.{◌≡◌, ℕ, ◌+◌, ◌-◌, ◌*◌, ◌<◌, ◌≤◌, true, List, Ok, Err, refl}
use Rattle.std.proofs.Common.{sym, ap, ◌∙◌, subst, arith}
use Rattle.std.proofs.Math.Bridge.{le_prop}
use Rattle.frame.specs.Pages.{page}
use Rattle.frame.specs.declared.make.Make.{Make}
use Rattle.frame.specs.declared.make.Make.TheVariants as make
use Rattle.register.specs.declared.fields.Coverage.{Coverage}
use Rattle.chip.specs.Exact.{OneOutcome, SameOutcome}
use Rattle.chip.specs.Meaning.{Meaning, Lawful, SameConfig, Composes, size}
use Rattle.chip.specs.Sent.{Sent, read, write, register_read, register_write, global_reset, place, Event, sending, Answer, FitsBuffer, read_bytes}
use Rattle.chip.specs.declared.config.Config.{Config}
use Rattle.window.specs.Windows.{shift, window_config, window, lowered, placed, Windowed}

-- ---- a window is lawful

-- what is hidden and what is left make up the whole, in whole pages
whole_pages : (m : Make) (pages h : ℕ) → h ≤ pages → (pages - h) * page m + h * page m ≡ pages * page m
whole_pages make.A pages h few = omega arith
whole_pages make.S pages h few = omega arith

pub parts : (h : ℕ) (k : Config) (some : h < k.pages) → size (window_config h k some) + shift h k ≡ size k
parts h k some = whole_pages k.make k.pages h (omega arith)

-- what a window refreshes is in it
within : (m : Make) (pages h a : ℕ) → a + h * page m < pages * page m → a < (pages - h) * page m
within make.A pages h a below = omega arith
within make.S pages h a below = omega arith

pub inside_window : (h : ℕ) (m : Meaning) (some : h < m.config.pages) → Lawful m → (c : Coverage) (a : ℕ)
    → (window h m some).refreshes c a ≡ true → a < size (window h m some).config
inside_window h m some law c a is = within m.config.make m.config.pages h a (law.inside c (a + shift h m.config) is)

pub lawful_window : (h : ℕ) (m : Meaning) (some : h < m.config.pages) → Lawful m → Lawful (window h m some)
lawful_window h m some law =
    let whole = parts h m.config some in
    record {
      full = λ a in_it. law.full (a + shift h m.config) (omega arith);
      inside = inside_window h m some law;
      room = law.room;
    }

-- ---- windows that hide as much of chips that mean as much mean the same

-- that a page is left has one proof
pub config_equal : (h : ℕ) (k l : Config) → k ≡ l → (p : h < k.pages) (q : h < l.pages)
    → window_config h k p ≡ window_config h l q
config_equal h k l e =
    subst (λ (x : Config). (p : h < k.pages) (q : h < x.pages) → window_config h k p ≡ window_config h x q) e
    (λ p q. ap (window_config h k) (le_prop p q))

pub window_equal : (h i : ℕ) (m n : Meaning) → h ≡ i → m ≡ n → (p : h < m.config.pages) (q : i < n.config.pages)
    → window h m p ≡ window i n q
window_equal h i m n hides means =
    subst (λ (j : ℕ). (p : h < m.config.pages) (q : j < n.config.pages) → window h m p ≡ window j n q) hides
    (subst (λ (x : Meaning). (p : h < m.config.pages) (q : h < x.config.pages) → window h m p ≡ window h x q) means
    (λ p q. ap (window h m) (le_prop p q)))

-- what never changes below never changes in the window
pub same_config_above : (h i : ℕ) (m n : Meaning) → i ≡ h → SameConfig m n → (p : h < m.config.pages)
    (q : i < n.config.pages) → SameConfig (window h m p) (window i n q)
same_config_above h i m n hides same =
    subst (λ (j : ℕ). (p : h < m.config.pages) (q : j < n.config.pages) → SameConfig (window h m p) (window j n q))
    (sym hides)
    (λ p q. record {
      config = config_equal h n.config m.config same.config q p;
      refreshes = λ i c a. same.refreshes i c (a + shift h (same.config i));
    })

-- what stays the same of hidden pages and of a chip composes where it does of the chip
pub same_composes : {W X : Type 0} (hidden : W → ℕ) (chip : W → X) (same : X → X → Type 0) → Composes same
    → Composes (λ w v. (hidden v ≡ hidden w) × same (chip w) (chip v))
same_composes hidden chip same below = record {
  none = λ w. (refl, below.none (chip w));
  two = λ u v w p q. (q.0 ∙ p.0, below.two (chip u) (chip v) (chip w) p.1 q.1);
}

-- ---- one outcome

lowered_fits : (by : ℕ) (f : Sent) (buffer : List ℕ) → FitsBuffer f buffer → FitsBuffer (lowered by f) buffer
lowered_fits by (read b a n) buffer fits = fits
lowered_fits by (write b a d k) buffer fits = tt
lowered_fits by (register_read r) buffer fits = tt
lowered_fits by (register_write r v) buffer fits = tt
lowered_fits by global_reset buffer fits = tt

came_up : (by p : ℕ) (f : Sent) (r : Answer) (new : List ℕ)
    → read_bytes f (placed p r) new ≡ read_bytes (lowered by f) r new
came_up by p (read b a n) (Ok x) new = refl
came_up by p (read b a n) (Err e) new = refl
came_up by p (write b a d k) r new = refl
came_up by p (register_read k) r new = refl
came_up by p (register_write k v) r new = refl
came_up by p global_reset r new = refl

-- seen through projections, so that a struct and its view are served alike
module _ {W X : Type 0} (hidden : W → ℕ) (chip : W → X) (meaning : X → Meaning)
    (gives : X → Event → X → Type 0) (same : X → X → Type 0)
    (some : (w : W) → hidden w < (meaning (chip w)).config.pages) where
  abbrev alike : W → W → Type 0
  alike w v = (hidden w ≡ hidden v) × same (chip w) (chip v)

  abbrev does : W → Event → W → Type 0
  does w e v = Windowed meaning gives (hidden w) (chip w) e (hidden v) (chip v)

  frame_outcome : OneOutcome meaning gives same → (c d p q : W) (gap : ℕ) (f : Sent) (old older new newer : List ℕ)
      (r s : Answer) → alike c d → FitsBuffer f old → FitsBuffer f older → does c (sending gap f old r new) p
      → does d (sending gap f older s newer) q → SameOutcome alike f old older p q r s new newer
  frame_outcome one c d p q gap f old older new newer r s (hides, shows) fits fits' (stays, below) (stays', below') =
      let by = shift (hidden c) (meaning (chip c)).config in
      let by' = shift (hidden d) (meaning (chip d)).config in
      let means = one.means (chip c) (chip d) shows in
      let same_by : by ≡ by' = λ i. shift (hides i) (means i).config in
      let sends' =
      subst (λ k. gives (chip d) (sending gap (lowered k f) older below'.answer newer) (chip q)) (sym same_by)
      below'.sends.own in
      let o =
      one.of_frame (chip c) (chip d) (chip p) (chip q) gap (lowered by f) old older new newer below.answer
      below'.answer shows (lowered_fits by f old fits) (lowered_fits by f older fits') below.sends.own sends' in
      record {
        after = (stays ∙ hides ∙ sym stays', o.after);
        answer = below.comes_back ∙ ap (placed (place f)) o.answer ∙ sym below'.comes_back;
        bytes =
            ap (λ x. read_bytes f x new) below.comes_back
            ∙ came_up by (place f) f below.answer new
            ∙ o.bytes
            ∙ sym (came_up by (place f) f below'.answer newer)
            ∙ ap (λ x. read_bytes f x newer) (sym below'.comes_back);
        buffer = o.buffer;
      }

  pub window_outcome : OneOutcome meaning gives same
      → OneOutcome (λ w. window (hidden w) (meaning (chip w)) (some w)) does alike
  window_outcome one = record {
    itself = λ w. (refl, one.itself (chip w));
    means = λ w v is.
        let means = one.means (chip w) (chip v) is.1 in
        window_equal (hidden w) (hidden v) (meaning (chip w)) (meaning (chip v)) is.0 means (some w) (some v);
    of_frame = frame_outcome one;
    of_pulse = λ c d p q pulse r s is below below'.
        let o = one.of_pulse (chip c) (chip d) (chip p) (chip q) pulse r s is.1 below.1.own below'.1.own in
        ((below.0 ∙ is.0 ∙ sym below'.0, o.0), o.1);
  }
