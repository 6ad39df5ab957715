-- Items laid one after the other. Assumes nothing.
--
-- WellFormed         the bytes of an item are all that decide it, and it passes where there is just room for it
-- AllWellFormed      each of the items is
-- laid               the bytes of an item as laid: zeros fill it up to its size
-- run                the bytes of items laid one after the other
-- placed             items with their places, the first at e
-- Ends               the walk of the cells ends at e, and all from there on is blank
use Rattle.std.specs.Prelude.{◌≡◌, ℕ, ◌+◌, ◌-◌, true, List, [], ◌∷◌, ◌++◌, length, drop, replicate}
use Rattle.flash.specs.Cells.{Cell, blank}
use Rattle.nodes.specs.Items.{Item, reach, passes, size}
use Rattle.nodes.specs.Walk.{walk, end_of}

abbrev pub WellFormed : Item → Type 0
WellFormed it = (reach it ≡ length it) × (passes (size it) it ≡ true)

abbrev pub AllWellFormed : List Item → Type 0
AllWellFormed [] = Unit {0}
AllWellFormed (it ∷ its) = WellFormed it × AllWellFormed its

abbrev pub laid : Item → List ℕ
laid it = it ++ replicate (size it - length it) 0

unfoldable pub run : List Item → List ℕ
run [] = []
run (it ∷ its) = laid it ++ run its

abbrev pub placed : ℕ → List Item → List (ℕ × Item)
placed e [] = []
placed e (it ∷ its) = (e, it) ∷ placed (e + size it) its

pub record Ends (xs : List Cell) (e : ℕ) : Type 0 where
  pub at : end_of 0 (walk xs) ≡ e
  pub behind : drop e xs ≡ blank (length xs - e)
