-- What writes of pieces leave: the unmasked bytes of the request, and every other byte as it was.
use Rattle.std.proofs.Common.{◌≡◌, ℕ, zero, suc, ◌+◌, ◌-◌, ◌<◌, ◌≤◌, Bool, true, false, if◌then◌else◌, not, ◌&&◌, ◌==◌, List, [], ◌∷◌, length, map, sym, refl, ap, ◌∙◌, subst, arith, inl, inr}
use Rattle.std.specs.List.{range_with_len}
use Rattle.std.specs.Prelude.{◌||◌, slice_index}
use Rattle.std.proofs.lemmas.Bool.{eqb-true, eq-eqb, and_parts, and_from, cases_lt, cases_Bool}
use Rattle.std.proofs.Math.Bool.{and-false}
use Rattle.std.proofs.lemmas.List.FromFn.{get_or-map-range_with_len, length-map-range_with_len}
use Rattle.chip.specs.Meaning.{Meaning, strobe_at}
use Rattle.chip.specs.Sent.{Sent, write}
use Rattle.chip.specs.Taken.{address, written, stored}
use Rattle.chip.specs.declared.config.Config.{Config}
use Rattle.chip.specs.declared.state.State.{State}
use Rattle.frame.specs.Pages.{page}
use Rattle.frame.specs.declared.burst.Burst.TheVariants.{Linear}
use Rattle.mask.specs.Masks.{masked}
use Rattle.split.specs.Splits.{pieces_from}
use Rattle.port.specs.Acts.{Act}
use Rattle.port.specs.Plans.{is_inside, byte_for, masks, mask_by, write_piece}
use Rattle.runs.proofs.Agreements.{Holds, over_frame, refreshed_still}
use Rattle.runs.proofs.Courses.{Effect, Course, ended, answered, unanswered}
use Rattle.runs.proofs.Masks.{masked_by}
use Rattle.runs.proofs.Places.{wrapped_in_page, IsInPage, AreInPages, piece_in_page}

-- ---- one frame

-- byte i of a write goes to address a, and is not masked
abbrev sets : (ℕ → ℕ) → List ℕ → ℕ → ℕ → Bool
sets to mask a i = to i == a && not (masked mask i)

-- an address to which no unmasked byte goes holds what it held
written_not : (to : ℕ → ℕ) (d mask : List ℕ) (n a old : ℕ) → ((i : ℕ) → i < n → sets to mask a i ≡ false)
    → written to d mask n a old ≡ old
written_not to d mask zero a old none = refl
written_not to d mask (suc n) a old none =
    ap (λ t. if t then slice_index d n else written to d mask n a old) (none n (omega arith))
    ∙ written_not to d mask n a old (λ i h. none i (omega arith))

-- one to which an unmasked byte goes holds b, where each that goes to it is b
written_once : (to : ℕ → ℕ) (d mask : List ℕ) (n a old i b : ℕ) → i < n → sets to mask a i ≡ true
    → ((j : ℕ) → j < n → sets to mask a j ≡ true → slice_index d j ≡ b) → written to d mask n a old ≡ b
written_once to d mask zero a old i b h one all = absurd (omega arith)
written_once to d mask (suc n) a old i b h one all = elim (cases_Bool (sets to mask a n)) [
  | inl so ↦ ap (λ t. if t then slice_index d n else written to d mask n a old) so ∙ all n (omega arith) so
  | inr not_so ↦
      let last : i ≡ n → sets to mask a n ≡ true = λ e. subst (λ k. sets to mask a k ≡ true) e one in
      let apart : i ≡ n → ⊥ = λ e. cc (last e) in
      ap (λ t. if t then slice_index d n else written to d mask n a old) not_so
      ∙ written_once to d mask n a old i b (omega arith) one (λ j k. all j (omega arith))
]

-- ---- one piece

-- a write of these data from a writes address x
abbrev pub is_written : ℕ → List ℕ → List ℕ → ℕ → Bool
is_written a d mask x = is_inside a (length d) x && not (masked mask (x - a))

-- the data of so many bytes from s
abbrev data_of : ℕ → List ℕ → ℕ → ℕ → List ℕ
data_of a d s count = map (λ i. byte_for a d (s + i)) (range_with_len 0 count)

-- their mask
abbrev mask_of : ℕ → List ℕ → List ℕ → ℕ → ℕ → List ℕ
mask_of a d mask s count = mask_by (λ i. masks a d mask (s + i)) count

-- the frame that writes them
abbrev frame_of : ℕ → List ℕ → List ℕ → ℕ → ℕ → Sent
frame_of a d mask s count = write Linear s (data_of a d s count) (mask_of a d mask s count)

-- what is not outside, and not masked
not_or : (b c : Bool) → not (not b || c) ≡ (b && not c)
not_or true c = refl
not_or false c = refl

-- where a test does not hold of x, it does not hold of what is x
only_there : (y x : ℕ) (test : ℕ → Bool) → (y ≡ x → test x ≡ false) → (y == x && test y) ≡ false
only_there y x test none = elim (cases_Bool (y == x)) [
  | inl so ↦
      let same = eqb-true y x so in
      ap (λ t. y == x && t) (ap test same ∙ none same) ∙ and-false (y == x)
  | inr not_so ↦ ap (λ t. t && test y) not_so
]

module _ (a : ℕ) (d mask : List ℕ) (s count : ℕ) where
  -- byte i of the data
  data_at : (i : ℕ) → i < count → slice_index (data_of a d s count) i ≡ byte_for a d (s + i)
  data_at i h = get_or-map-range_with_len (λ j. byte_for a d (s + j)) 0 count i i 0 h (omega arith)

  -- how many there are
  data_count : length (data_of a d s count) ≡ count
  data_count = length-map-range_with_len (λ j. byte_for a d (s + j)) 0 count

  module _ (k : Config) (state : State) (in_page : IsInPage k s count) where
    -- byte i goes to the address that is i behind the start, and is unmasked where the request writes it
    sets_in : (x i : ℕ) → i < count → sets (address k state Linear s) (mask_of a d mask s count) x i
        ≡ (s + i == x && is_written a d mask (s + i))
    sets_in x i h =
        ap (λ y. y == x && not (masked (mask_of a d mask s count) i))
        (wrapped_in_page (page k.make) s count i in_page h)
        ∙ ap (λ t. s + i == x && not t) (masked_by (λ j. masks a d mask (s + j)) count i h)
        ∙ ap (λ t. s + i == x && t) (not_or (is_inside a (length d) (s + i)) (masked mask (s + i - a)))

    -- an address that the request does not write, or that is not among those of the piece
    piece_leaves : (x old : ℕ) → ((i : ℕ) → i < count → s + i ≡ x → is_written a d mask x ≡ false)
        → stored k state (frame_of a d mask s count) x old ≡ old
    piece_leaves x old none =
        let place = address k state Linear s in
        let none_sets : (i : ℕ) → i < count → sets place (mask_of a d mask s count) x i ≡ false =
        λ i h. sets_in x i h ∙ only_there (s + i) x (is_written a d mask) (none i h) in
        written_not place (data_of a d s count) (mask_of a d mask s count) (length (data_of a d s count)) x old
        (λ i h. none_sets i (omega (arith, data_count)))

    -- one that the request writes
    piece_sets : (x old : ℕ) → is_written a d mask x ≡ true → s ≤ x → x < s + count
        → stored k state (frame_of a d mask s count) x old ≡ slice_index d (x - a)
    piece_sets x old is least most =
        let place = address k state Linear s in
        let there : s + (x - s) ≡ x = omega arith in
        let one = and_from (s + (x - s) == x) (is_written a d mask (s + (x - s)))
        (eq-eqb (s + (x - s)) x there) (ap (is_written a d mask) there ∙ is) in
        let inside = (and_parts (is_inside a (length d) x) (not (masked mask (x - a))) is).0 in
        let all : (j : ℕ) → j < count → sets place (mask_of a d mask s count) x j ≡ true
        → slice_index (data_of a d s count) j ≡ slice_index d (x - a) =
        λ j h so.
        let both = and_parts (s + j == x) (is_written a d mask (s + j)) (sym (sets_in x j h) ∙ so) in
        let here = eqb-true (s + j) x both.0 in
        data_at j h ∙ ap (byte_for a d) here ∙ ap (λ t. if t then slice_index d (x - a) else 0) inside in
        written_once place (data_of a d s count) (mask_of a d mask s count) (length (data_of a d s count)) x old
        (x - s) (slice_index d (x - a)) (omega (arith, data_count)) (sets_in x (x - s) (omega arith) ∙ one)
        (λ j h. all j (omega (arith, data_count)))

  module _ {m q : Meaning} {act : Act} (in_page : IsInPage m.config s count)
      (does : Effect m (frame_of a d mask s count) act q)
      (x b : ℕ) (strobe : strobe_at q x ≡ true) (was : Holds m x b) where
    -- what an address holds after the frame, by what it held
    after_piece : Holds q x (stored m.config m.state (frame_of a d mask s count) x b)
    after_piece = over_frame does was strobe (refreshed_still does (λ v. refl) x ∙ was.refreshed)

    -- one that the request does not write, or that is not among those of the piece
    held_by_piece : ((i : ℕ) → i < count → s + i ≡ x → is_written a d mask x ≡ false) → Holds q x b
    held_by_piece none = subst (Holds q x) (piece_leaves m.config m.state in_page x b none) after_piece

    -- one that the request writes
    set_by_piece : is_written a d mask x ≡ true → s ≤ x → x < s + count → Holds q x (slice_index d (x - a))
    set_by_piece is least most =
        subst (Holds q x) (piece_sets m.config m.state in_page x b is least most) after_piece

-- ---- one piece after another

module _ (a : ℕ) (d mask : List ℕ) where
  -- acts that write pieces of these lengths from s on
  abbrev pub Writes : Meaning → ℕ → List ℕ → List Act → Meaning → Type 0
  Writes m s ns acts o = Course m (map (write_piece a d mask) (pieces_from s ns)) acts o

  -- where the strobe is there after them, it was before
  pub strobe_before : (m o : Meaning) (s : ℕ) (ns : List ℕ) (acts : List Act) → Writes m s ns acts o → (x : ℕ)
      → strobe_at o x ≡ true → strobe_at m x ≡ true
  strobe_before m o s [] acts ended x strobe = strobe
  strobe_before m o s (n ∷ ns) acts (answered {n = q} {rest = rest} does found more) x strobe =
      does.strobe x (strobe_before q o (s + n) ns rest more x strobe)
  strobe_before m o s (n ∷ ns) acts (unanswered does lost) x strobe = does.strobe x strobe

  -- an address before s, and one that the request does not write, holds what it held
  pub held_through : (m o : Meaning) (limit s e : ℕ) (ns : List ℕ) (acts : List Act)
      → AreInPages m.config limit s e ns → Writes m s ns acts o → (x b : ℕ)
      → (s ≤ x → is_written a d mask x ≡ false) → strobe_at o x ≡ true → Holds m x b → Holds o x b
  held_through m o limit s e [] acts split ended x b none strobe was = was
  held_through m o limit s e (n ∷ ns) acts (fit, even, split) (answered {n = q} {rest = rest} does found more)
      x b none strobe was =
      let between = strobe_before q o (s + n) ns rest more x strobe in
      let in_page = piece_in_page m.config limit s n fit in
      let still = subst (λ k. AreInPages k limit (s + n) e ns) (sym does.same.config) split in
      let one = held_by_piece a d mask s (s + n - s) in_page does x b between was (λ i h e. none (omega arith)) in
      held_through q o limit (s + n) e ns rest still more x b (λ h. none (omega arith)) strobe one
  held_through m o limit s e (n ∷ ns) acts split (unanswered does lost) x b none strobe was = cc (does.lost)

  -- an address from s to e that the request writes holds its byte
  pub set_through : (m o : Meaning) (limit s e : ℕ) (ns : List ℕ) (acts : List Act)
      → AreInPages m.config limit s e ns → Writes m s ns acts o → (x b : ℕ) → is_written a d mask x ≡ true
      → s ≤ x → x < e → strobe_at o x ≡ true → Holds m x b → Holds o x (slice_index d (x - a))
  set_through m o limit s e [] acts split ended x b so least most strobe was = absurd (omega arith)
  set_through m o limit s e (n ∷ ns) acts (fit, even, split) (answered {n = q} {rest = rest} does found more)
      x b so least most strobe was =
      let between = strobe_before q o (s + n) ns rest more x strobe in
      let in_page = piece_in_page m.config limit s n fit in
      let still = subst (λ k. AreInPages k limit (s + n) e ns) (sym does.same.config) split in
      elim (cases_lt x (s + n)) [
        | inl here ↦
            let one = set_by_piece a d mask s (s + n - s) in_page does x b between was so least (omega arith) in
            held_through q o limit (s + n) e ns rest still more x (slice_index d (x - a)) (λ h. absurd (omega arith))
            strobe one
        | inr further ↦
            let none : (i : ℕ) → i < s + n - s → s + i ≡ x → is_written a d mask x ≡ false =
            λ i h e. absurd (omega arith) in
            let one = held_by_piece a d mask s (s + n - s) in_page does x b between was none in
            set_through q o limit (s + n) e ns rest still more x b so further most strobe one
      ]
  set_through m o limit s e (n ∷ ns) acts split (unanswered does lost) x b so least most strobe was = cc (does.lost)
