-- The items of a block, one after the other, each with its place. Assumes nothing.
--
-- marker       the twelve bytes with which every block that holds anything begins
-- marked       whether a block begins with them
-- walk         the items of a block: none, if it does not begin with the marker; else up to the first place where nothing stands
-- walk_from    the items from a place on
-- end_of       where a list of items ends that begins at a place
use Rattle.std.specs.Prelude.{ℕ, zero, suc, ◌+◌, Bool, true, false, cond, List, [], ◌∷◌, length, drop, Some, None, Option, ◌==◌}
use Rattle.flash.specs.Cells.{Cell, byte, lost, cells}
use Rattle.nodes.specs.Items.{Item, stands, size}

-- what is met at a place, and then from behind it
abbrev pub met : (ℕ → List (ℕ × Item)) → ℕ → Option Item → List (ℕ × Item)
met go p None = []
met go p (Some it) = (p, it) ∷ go (p + size it)

-- at most f items, from a place on
unfoldable pub walk_in : ℕ → List Cell → ℕ → List (ℕ × Item)
walk_in zero xs p = []
walk_in (suc f) xs p = met (walk_in f xs) p (stands (drop p xs))

-- there are no more items than cells
unfoldable pub walk_from : List Cell → ℕ → List (ℕ × Item)
walk_from xs p = walk_in (length xs) xs p

-- whether the first n cells of both can be read and are the same
unfoldable pub alike : ℕ → List Cell → List Cell → Bool
alike zero xs ys = true
alike (suc n) [] ys = false
alike (suc n) (lost ∷ xs) ys = false
alike (suc n) (byte a ∷ xs) [] = false
alike (suc n) (byte a ∷ xs) (lost ∷ ys) = false
alike (suc n) (byte a ∷ xs) (byte b ∷ ys) = cond (a == b) (alike n xs ys) false

abbrev pub marker : Item
marker = 0x85 ∷ 0x19 ∷ 0x03 ∷ 0x20 ∷ 0x0C ∷ 0x00 ∷ 0x00 ∷ 0x00 ∷ 0xB1 ∷ 0xB0 ∷ 0x1E ∷ 0xE4 ∷ []

unfoldable pub marked : List Cell → Bool
marked xs = alike 12 (cells marker) xs

unfoldable pub walk : List Cell → List (ℕ × Item)
walk xs = cond (marked xs) (walk_from xs 0) []

abbrev pub end_of : ℕ → List (ℕ × Item) → ℕ
end_of p [] = p
end_of p (x ∷ xs) = end_of (x.0 + size x.1) xs
