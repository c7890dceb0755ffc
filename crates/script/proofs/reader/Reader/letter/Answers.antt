use Rattle.std.proofs.Common.{◌≡◌, ℕ, Ok, Err, Result, MatchResult, sym, subst, rules}
use Rattle.std.specs.Prelude.{OnErr, slice_index}
use Rattle.script.proofs.reader.Reader.letter.Goals as goal

on_err : {T R : Type 0} (r : Result T R) (P : Type 0) → P → OnErr r P
on_err (Ok x) P p = tt
on_err (Err e) P p = p

-- what the letter's type does not take, the reader does not take
names_nothing : {T E R : Type 0} (gives : ℕ → Result T E → Type 0) (named : Result T E) (r : Result T R) (a b : ℕ) (P : Type 0) (Q : E → Type 0) → MatchResult named (λ x. r ≡ Ok x) Q → gives a named → a ≡ b → OnErr r (P → (u : E) × gives b (Err u))
names_nothing gives (Ok x) r a b P Q is given at = subst (λ q. OnErr q (P → (u : _) × gives b (Err u))) (sym is) tt
names_nothing gives (Err u) r a b P Q is given at = on_err r _ (λ _. (u, subst (λ n. gives n (Err u)) at given))

pub returns-clause-names_nothing : goal.returns-clause-names_nothing
returns-clause-names_nothing g c =
    let at : c.from.result ≡ slice_index c.args.self.now.rest.now 0 = search rules in
    names_nothing g.T.TryFrom.try_from_gives _ _ _ _ _ _ c.map_err.ensures.cases c.try_from.ensures at
