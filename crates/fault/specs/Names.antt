-- Names: of layers, and of what else has a letter or a code. Assumes nothing.
use Rattle.std.specs.Prelude.{◌≡◌, ◌≢◌, ℕ, List, codes, Option, Result, MatchResult, ◌==◌, find, slice_index}
use Rattle.fault.specs.declared.Layer.{Layer}
use Rattle.fault.specs.declared.Layer.TheVariants.{Script, Port, Chip}
use Rattle.fault.specs.declared.Unknown.{Unknown}

abbrev pub layer_name : Layer → List ℕ
layer_name Script = codes "script"
layer_name Port = codes "port"
layer_name Chip = codes "chip"

-- the first byte of a text: a letter as a number
abbrev pub initial : List ℕ → ℕ
initial text = slice_index text 0

-- the first of these that has this letter or code
abbrev pub named : {A : Type 0} → (A → ℕ) → List A → ℕ → Option A
named name all c = find (λ x. name x == c) all

-- what has this name, by what each is named, or a name that nothing has
abbrev pub Named : {A : Type 0} → (A → ℕ) → ℕ → Result A (Unknown ℕ) → Type 0
Named name c r = MatchResult r (λ x. name x ≡ c) (λ e. (e.0 ≡ c) × ((x : _) → name x ≢ c))
