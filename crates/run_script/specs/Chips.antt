-- The chip of an opening: a model over a store of zeros, bare, or below a window and a scrambler. Assumes nothing.
use Rattle.std.specs.Prelude.{◌≡◌, ℕ, ◌*◌, ◌<◌, List, replicate}
use Rattle.chip.specs.Meaning.{Meaning}
use Rattle.chip.specs.Sent.{Event}
use Rattle.frame.specs.Pages.{page}
use Rattle.model.specs.Contents.{Contents, meaning}
use Rattle.model.specs.Fresh.{IsFresh}
use Rattle.model.specs.Step.{Exactly}
use Rattle.scrambler.specs.Scramblers.{scrambler, Scrambled}
use Rattle.script.specs.Openings.{Fields}
use Rattle.window.specs.Windows.{window, Windowed}

-- ---- what the layers hold, all of it

-- a window over a model
pub record Narrowed : Type 0 where
  pub chip : Contents
  pub hidden : ℕ
  pub page_left : hidden < chip.config.pages

abbrev pub narrowed_meaning : Narrowed → Meaning
narrowed_meaning w = window w.hidden (meaning w.chip) w.page_left

abbrev pub NarrowedGives : Narrowed → Event → Narrowed → Type 0
NarrowedGives w e v = Windowed meaning Exactly w.hidden w.chip e v.hidden v.chip

-- a scrambler over that
pub record Keyed : Type 0 where
  pub chip : Narrowed
  pub key : List ℕ

abbrev pub keyed_meaning : Keyed → Meaning
keyed_meaning s = scrambler s.key (narrowed_meaning s.chip)

abbrev pub KeyedGives : Keyed → Event → Keyed → Type 0
KeyedGives s e t = Scrambled narrowed_meaning NarrowedGives s.key s.chip e t.key t.chip

-- ---- as an opening says

-- the model, not woken yet, over a store of zeros of the chip's pages
abbrev pub IsModelOf : Fields → Contents → Type 0
IsModelOf f m =
    IsFresh f.make (replicate (f.pages * page f.make) 0) f.khz f.range f.refresh_word f.strobe_count m

-- a scrambler with this key over a window that hides one page of the model
pub record IsKeyedOf (key : List ℕ) (f : Fields) (s : Keyed) : Type 0 where
  pub key_is : s.key ≡ key
  pub hides : s.chip.hidden ≡ 1
  pub model : IsModelOf f s.chip.chip
