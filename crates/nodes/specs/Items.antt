-- The items that can stand on a block. Assumes nothing.
--
-- Item         an item, known by the bytes that decide it: the four of a zero word, all totlen bytes of an entry or a
--              content, the twelve of the header for any other kind (marker, padding and kinds that we do not know)
-- kind, totlen, nsize, name, csize, payload   its fields, at their places
-- is_word      whether it is a zero word
-- reach        how many bytes decide the item that a list of bytes begins with
-- passes       whether an item passes, where room bytes are left in the block
-- stands       what stands at the first of the cells, which go up to the block's end
-- size         how many bytes of the block an item takes up
use Rattle.std.specs.Prelude.{ℕ, ◌+◌, max, Bool, true, false, cond, List, [], ◌∷◌, length, take, drop, Some, None, Option, ◌==◌, nat_le, slice_index}
use Rattle.crc32.specs.Sum.{sum}
use Rattle.flash.specs.Cells.{Cell, front}
use Rattle.nodes.specs.Fields.{le16, le32, padded, all}

abbrev pub Item : Type 0
Item = List ℕ

abbrev pub kind : Item → ℕ
kind it = le16 it 2

abbrev pub totlen : Item → ℕ
totlen it = le32 it 4

abbrev pub is_word : Item → Bool
is_word it = le32 it 0 == 0

unfoldable pub reach : List ℕ → ℕ
reach bs =
    cond (is_word bs) 4
    (cond (kind bs == 0xE001) (max 12 (totlen bs))
    (cond (kind bs == 0xE002) (max 12 (totlen bs)) 12))

-- what a header has to pass where room bytes are left: the magic, its sum, a length of at least its own, within the block
abbrev pub header : ℕ → Item → List Bool
header room it =
    (slice_index it 0 == 0x85) ∷ (slice_index it 1 == 0x19) ∷ (le32 it 8 == sum (take 8 it))
    ∷ nat_le 12 (totlen it) ∷ nat_le (padded (totlen it)) room ∷ []

abbrev pub nsize : Item → ℕ
nsize it = slice_index it 28

abbrev pub name : Item → List ℕ
name it = take (nsize it) (drop 40 it)

-- what an entry has to pass besides: its fields and its name lie within it, and their sums are right
abbrev pub entry : Item → List Bool
entry it = nat_le (40 + nsize it) (totlen it) ∷ (le32 it 32 == sum (take 32 it)) ∷ (le32 it 36 == sum (name it)) ∷ []

abbrev pub csize : Item → ℕ
csize it = le32 it 48

abbrev pub payload : Item → List ℕ
payload it = take (csize it) (drop 68 it)

-- what a content has to pass besides: its fields and its data lie within it, and their sums are right
abbrev pub content : Item → List Bool
content it = nat_le (68 + csize it) (totlen it) ∷ (le32 it 60 == sum (payload it)) ∷ (le32 it 64 == sum (take 60 it)) ∷ []

unfoldable pub passes : ℕ → Item → Bool
passes room it =
    cond (is_word it) true
    (cond (all (header room it))
    (cond (kind it == 0xE001) (all (entry it)) (cond (kind it == 0xE002) (all (content it)) true))
    false)

-- the item that readable bytes begin with, if all that decides it is among them and it passes
unfoldable pub offered : ℕ → List ℕ → Option Item
offered room bs =
    cond (nat_le (reach bs) (length bs)) (cond (passes room (take (reach bs) bs)) (Some (take (reach bs) bs)) None) None

unfoldable pub stands : List Cell → Option Item
stands cs = offered (length cs) (front cs)

unfoldable pub size : Item → ℕ
size it = cond (is_word it) 4 (padded (totlen it))
