-- Reads return the last write. Assumes nothing.
use Rattle.std.specs.Prelude.{◌≡◌, ℕ, ◌<◌, Bool, List, [], ◌∷◌, Some, slice_index}
use Rattle.chip.specs.Meaning.{Meaning}
use Rattle.chip.specs.Sent.{Event}
use Rattle.register.specs.declared.fields.Coverage.{Coverage}
use Rattle.port.specs.Serves.{Woken, Transaction}
use Rattle.runs.specs.Histories.{History, IsFresh, count_read}
use Rattle.runs.specs.Scoreboards.{Scoreboard, blank, board_after, address_read}

-- wherever the scoreboard has a byte, the byte read is that byte
abbrev pub ReadsKnown : Scoreboard → Transaction → Type 0
ReadsKnown board t =
    (i b : ℕ) → i < count_read t → board (address_read t.request i) ≡ Some b → slice_index t.after i ≡ b

-- true of each transaction, with the scoreboard before it
abbrev pub EachWith : (Scoreboard → Transaction → Type 0) → (Coverage → ℕ → Bool) → Scoreboard → List Transaction
    → Type 0
EachWith P refreshes board [] = Unit {0}
EachWith P refreshes board (t ∷ ts) = P board t × EachWith P refreshes (board_after refreshes t board) ts

-- from a port that has just been woken, with a blank scoreboard
abbrev pub ReadsReturnLastWrite : {X : Type 0} → (X → Meaning) → (X → Event → X → Type 0) → Type 0
ReadsReturnLastWrite {X} meaning gives =
    (p q : Woken X) (ts : List Transaction) → IsFresh meaning gives p → History meaning gives p ts q
    → EachWith ReadsKnown (meaning p.chip).refreshes blank ts
