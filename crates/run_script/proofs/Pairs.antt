-- The lines of commands, one for each pair of a command and what came of it.
use Rattle.std.proofs.Common.{◌≡◌, ℕ, List, [], ◌∷◌, map, refl, ap, sym, ◌∙◌}
use Rattle.std.proofs.lemmas.List.Folds.{flat_map-map}
use Rattle.std.specs.List.{flat_map, zip}
use Rattle.script.specs.Scripts.{placed_instruction, placed_instructions}
use Rattle.script.specs.declared.listing.Placed.{Placed}
use Rattle.runs.specs.Serving.{came}
use Rattle.runs.specs.declared.serving.Response.{Response}
use Rattle.run_script.specs.Lines.{command_line, command_lines}

-- pairs of what two functions make are made of pairs
zip_of_maps : {A B C D : Type 0} (g : A → C) (h : B → D) (xs : List A) (ys : List B)
    → map (λ (p : A × B). (g p.0, h p.1)) (zip xs ys) ≡ zip (map g xs) (map h ys)
zip_of_maps g h [] ys = refl
zip_of_maps g h (x ∷ xs) [] = refl
zip_of_maps g h (x ∷ xs) (y ∷ ys) = ap (λ ps. (g x, h y) ∷ ps) (zip_of_maps g h xs ys)

-- the line of a pair
abbrev pub pair_line : Placed × Response → List ℕ
pair_line p = command_line (placed_instruction p.0) (came p.1)

-- the lines of pairs that show commands and responses are those of the commands
pub lines_of_pairs : {P : Type 0} (show : P → Placed × Response) (ps : List Placed) (rs : List Response)
    (pairs : List P) → map show pairs ≡ zip ps rs
    → flat_map (λ p. pair_line (show p)) pairs ≡ command_lines (placed_instructions ps) (map came rs)
lines_of_pairs show ps rs pairs is =
    sym (flat_map-map pair_line show pairs)
    ∙ ap (flat_map pair_line) is
    ∙ sym (flat_map-map (λ (c, r). command_line c r)
    (λ (p : Placed × Response). (placed_instruction p.0, came p.1)) (zip ps rs))
    ∙ ap (flat_map (λ (c, r). command_line c r)) (zip_of_maps placed_instruction came ps rs)
