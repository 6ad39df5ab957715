-- When a loss is fair: no bytes that a failure left look like an item that follows. Assumes nothing.
--
-- counted      how many bytes of an item count when it is compared: 4 of a zero word, 12 of padding, all totlen of any other
-- parting      the place where cells as settled part from a list of items that were to stand on the cells want: that of the
--              first item of which a counted byte differs or cannot be read; if there is none, the end of the list, which
--              is where its last item ends, or p for an empty list
-- absent       whether nothing stands, of what may stand at a place
-- nothing_at   whether nothing passes at a place: at 0 only the marker would; elsewhere any item that passes, or a zero word
-- fair         whether a loss is fair that left the cells got, where the items of the list were to stand on the cells want
-- Fair         that it is
-- loss_fair    the same for the items of the walk of what was to stand; rows of different lengths are no loss of one block
use Rattle.std.specs.Prelude.{◌≡◌, ℕ, ◌+◌, Bool, true, false, cond, not, List, [], ◌∷◌, length, drop, Some, None, Option, ◌==◌}
use Rattle.flash.specs.Cells.{Cell}
use Rattle.nodes.specs.Items.{Item, kind, totlen, is_word, stands, size}
use Rattle.nodes.specs.Walk.{walk, marked, alike}

unfoldable pub counted : Item → ℕ
counted it = cond (is_word it) 4 (cond (kind it == 0x2004) 12 (totlen it))

abbrev pub parting : List Cell → List Cell → ℕ → List (ℕ × Item) → ℕ
parting want got p [] = p
parting want got p (x ∷ xs) =
    cond (alike (counted x.1) (drop x.0 want) (drop x.0 got)) (parting want got (x.0 + size x.1) xs) x.0

abbrev pub absent : Option Item → Bool
absent None = true
absent (Some it) = false

unfoldable pub nothing_at : ℕ → List Cell → Bool
nothing_at p got = cond (p == 0) (not (marked got)) (absent (stands (drop p got)))

unfoldable pub fair : List Cell → List (ℕ × Item) → List Cell → Bool
fair want list got = nothing_at (parting want got 0 list) got

abbrev pub Fair : List Cell → List (ℕ × Item) → List Cell → Type 0
Fair want list got = fair want list got ≡ true

unfoldable pub loss_fair : List Cell → List Cell → Bool
loss_fair want got = cond (length want == length got) (fair want (walk want) got) false
