-- Taking the longest piece each time: one piece further on, and that the split is lawful. Assumes nothing.
use Rattle.std.proofs.Common.{◌≡◌, ℕ, zero, suc, ◌+◌, ◌-◌, ◌%◌, ◌<◌, ◌≤◌, Bool, List, [], ◌∷◌, length, sym, refl, ap, ◌∙◌, arith}
use Rattle.std.proofs.lemmas.Bool.{cond-true, cond-false, lt-ltb, le-ltb}
use Rattle.std.proofs.lemmas.Bool.Decides.{nat_tests}
use Rattle.frame.specs.Pages.{page}
use Rattle.frame.specs.Spans.{span_of, span_same}
use Rattle.frame.specs.declared.span.Span.{Span}
use Rattle.frame.specs.declared.make.Make.{Make}
use Rattle.frame.specs.declared.make.Make.TheVariants as make
use Rattle.split.specs.Splits.{fits, next_length, IsLawful, lengths_by, pieces_from, TakesLongest}

-- there are as many pieces as lengths, and no more than may be taken
pub length_pieces_from : (s : ℕ) (ns : List ℕ) → length (pieces_from s ns) ≡ length ns
length_pieces_from s [] = refl
length_pieces_from s (n ∷ ns) = ap (λ k. suc k) (length_pieces_from (s + n) ns)

pub few : (next : ℕ → ℕ → ℕ) (most s e : ℕ) → length (lengths_by next most s e) ≤ most
few next zero s e = omega arith
few next (suc most) s e = grind (arith, nat_tests, few next most (s + next s e) e)

module _ {fit : ℕ → ℕ → Bool} {next : ℕ → ℕ → ℕ} (rule : TakesLongest fit next) where
  -- nothing is left
  pub lengths_none : (most s e : ℕ) → e ≤ s → lengths_by next most s e ≡ []
  lengths_none zero s e h = refl
  lengths_none (suc most) s e h = cond-false _ _ _ (le-ltb s e h)

  -- one piece and the rest
  pub lengths_one : (most s e : ℕ) → s < e → lengths_by next (suc most) s e ≡ next s e ∷ lengths_by next most (s + next s e) e
  lengths_one most s e h = cond-true _ _ _ (lt-ltb s e h)

  -- how many may be taken does not matter where it suffices
  pub enough : (f g s e : ℕ) → e - s ≤ f → e - s ≤ g → lengths_by next f s e ≡ lengths_by next g s e
  enough zero g s e h k = sym (lengths_none g s e (omega arith))
  enough (suc f) zero s e h k = lengths_none (suc f) s e (omega arith)
  enough (suc f) (suc g) s e h k = grind (arith, nat_tests, rule.some s e, enough f g (s + next s e) e)

  -- the split of what is left is one piece and the split of the rest
  pub step : (s e : ℕ) → s < e → lengths_by next (e - s) s e ≡ next s e ∷ lengths_by next (e - (s + next s e)) (s + next s e) e
  step s e h =
      enough (e - s) (suc (e - s)) s e (omega arith) (omega arith) ∙ lengths_one (e - s) s e h
      ∙ ap (λ ns. next s e ∷ ns) (enough (e - s) (e - (s + next s e)) (s + next s e) e (omega arith) (omega arith))

  -- the same of the pieces in their places
  pub step_pieces_from : (s e n : ℕ) (piece : Span) → s < e → n ≡ next s e → piece.from ≡ s → piece.to ≡ s + n → pieces_from s (lengths_by next (e - s) s e) ≡ piece ∷ pieces_from (s + n) (lengths_by next (e - (s + n)) (s + n) e)
  step_pieces_from s e n piece h is from to =
      rw is (ap (pieces_from s) (step s e h)) ∙ ap (λ first. first ∷ pieces_from (s + n) (lengths_by next (e - (s + n)) (s + n) e)) (span_same (span_of s n) piece (sym from) (sym to))

  lawful_by : (most s e : ℕ) → e - s ≤ most → s % 2 ≡ 0 → e % 2 ≡ 0 → s ≤ e → IsLawful fit s e (lengths_by next most s e)
  lawful_by zero s e h i j k = omega arith
  lawful_by (suc most) s e h i j k = grind (arith, nat_tests, rule.some s e, rule.even s e i j, rule.within s e, rule.fitting s e, lawful_by most (s + next s e) e)

  pub lawful : (s e : ℕ) → s % 2 ≡ 0 → e % 2 ≡ 0 → s ≤ e → IsLawful fit s e (lengths_by next (e - s) s e)
  lawful s e = lawful_by (e - s) s e (omega arith)

-- the next piece of a splitter is the longest that fits, for pages in which an even start leaves an even rest
longest_in : (p limit : ℕ) → 0 < limit → limit % 2 ≡ 0 → ((s : ℕ) → s % p < p) → ((s : ℕ) → s % 2 ≡ 0 → (p - s % p) % 2 ≡ 0) → TakesLongest (fits p limit) (next_length p limit)
longest_in p limit some even column rest = record {
  some = λ s e h. omega (arith, column s);
  within = λ s e h. omega arith;
  even = λ s e i j h. omega (arith, rest s i);
  fitting = λ s e h. let inside = column s in grind (arith, nat_tests);
  most = λ s e n h k. grind (arith, nat_tests);
}

pub takes_longest : (m : Make) (limit : ℕ) → 0 < limit → limit % 2 ≡ 0 → TakesLongest (fits (page m) limit) (next_length (page m) limit)
takes_longest make.A limit some even = longest_in 1024 limit some even (λ s. omega arith) (λ s i. omega arith)
takes_longest make.S limit some even = longest_in 2048 limit some even (λ s. omega arith) (λ s i. omega arith)
