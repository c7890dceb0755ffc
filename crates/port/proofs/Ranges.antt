-- Tests of each number of a range, and of masks.
use Rattle.std.proofs.Common.{◌≡◌, ℕ, zero, suc, ◌+◌, ◌-◌, ◌*◌, ◌≤◌, ◌<◌, ◌↔◌, Bool, true, false, not, List, length, refl, sym, ap, ◌∙◌, true≢false, inl, inr, arith}
use Rattle.std.specs.Prelude.{IsTrue}
use Rattle.std.proofs.lemmas.Bool.{cases_lt, and_parts, and_from, false_from_ne_true, true_from_ne_false, iff_false}
use Rattle.mask.specs.Masks.{masked, MasksPast}
use Rattle.mask.proofs.Bits.{unmasked_past_end}
use Rattle.port.specs.Tests.{each_from}

-- what is true of each number of a range is true of one in it
pub each_from-at : (test : ℕ → Bool) (a n x : ℕ) → each_from test a n ≡ true → a ≤ x → x < a + n → test x ≡ true
each_from-at test a zero x all from to = absurd (omega arith)
each_from-at test a (suc n) x all from to =
    let (before, last) = and_parts (each_from test a n) (test (a + n)) all in
    elim (cases_lt x (a + n)) [
      | inl below ↦ each_from-at test a n x before from below
      | inr behind ↦ let is : x ≡ a + n = omega arith in ap test is ∙ last
    ]

-- and the other way round
pub each_from-all : (test : ℕ → Bool) (a n : ℕ) → ((x : ℕ) → a ≤ x → x < a + n → test x ≡ true)
    → each_from test a n ≡ true
each_from-all test a zero all = refl
each_from-all test a (suc n) all =
    and_from (each_from test a n) (test (a + n)) (each_from-all test a n (λ x from to. all x from (omega arith)))
    (all (a + n) (omega arith) (omega arith))

-- two tests with one meaning
pub same_test : (x y : Bool) → (x ≡ true → y ≡ true) → (y ≡ true → x ≡ true) → x ≡ y
same_test true y on back = sym (on refl)
same_test false true on back = back refl
same_test false false on back = refl

-- a byte that is masked lies in the mask
masked_inside : (mask : List ℕ) (i : ℕ) → masked mask i ≡ true → i < 8 * length mask
masked_inside mask i set = elim (cases_lt i (8 * length mask)) [
  | inl inside ↦ inside
  | inr past ↦ absurd (true≢false (sym set ∙ unmasked_past_end mask i (omega arith)))
]

-- a bit past the length of a write
module _ (mask : List ℕ) (n : ℕ) where
  -- it is not set
  abbrev is_clear : ℕ → Bool
  is_clear i = not (masked mask i)

  -- not each is clear where one is set
  set_past : MasksPast mask n → each_from is_clear n (8 * length mask - n) ≡ true → ⊥
  set_past found clear =
      let inside = masked_inside mask found.0 found.2 in
      let not_set : true ≡ false =
      sym (each_from-at is_clear n (8 * length mask - n) found.0 clear found.1 (omega arith)) ∙ ap not found.2 in
      true≢false not_set

  -- each is clear where none is set
  clear_past : (MasksPast mask n → ⊥) → each_from is_clear n (8 * length mask - n) ≡ true
  clear_past none =
      each_from-all is_clear n (8 * length mask - n)
      (λ x from to. ap not (false_from_ne_true (masked mask x) (λ hit. none (x, from, hit))))

  -- so the question whether one is set is the test of each
  pub masks_past_is : (r : Bool) → (IsTrue r ↔ MasksPast mask n) → r ≡ not (each_from is_clear n (8 * length mask - n))
  masks_past_is r iff =
      same_test r (not (each_from is_clear n (8 * length mask - n)))
      (λ set. ap not (false_from_ne_true _ (set_past (iff.0 set))))
      (λ some. true_from_ne_false r (λ none. true≢false (sym some ∙ ap not (clear_past (iff_false iff none)))))

-- a question about each number of a range
pub asked : (test : ℕ → Bool) (a n : ℕ) (r : Bool)
    → (IsTrue r ↔ ((x : ℕ) → a ≤ x → x < a + n → test x ≡ true)) → r ≡ each_from test a n
asked test a n r iff =
    same_test r (each_from test a n) (λ yes. each_from-all test a n (iff.0 yes))
    (λ all. iff.1 (λ x from to. each_from-at test a n x all from to))
