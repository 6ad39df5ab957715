-- What a reader hands out. Assumes nothing.
--
-- rest           the items that a reader has still to hand out, each with its offset: those from its cursor on
-- found_at       an item as it is found in a block: with its place, as what it is
-- to_find        the items that a reader has still to hand out, as they will be found
-- bytes_left     how many bytes are left at its cursor
-- first_of       the first of a list of items, with its place in this block
-- behind         those behind the first
-- found_as, found_shown   what the code's item and its answer stand for
-- HandsOut       the reader's answer is the first item that it has still to hand out, and the others are left
use Rattle.std.specs.Prelude.{◌≡◌, ℕ, ◌-◌, List, [], ◌∷◌, length, map, Some, None, Option}
use Rattle.std.specs.Iterator.{YieldsFirstBy}
use Rattle.flash.specs.declared.place.Place.{Place}
use Rattle.nodes.specs.declared.reader.Reader.{Reader}
use Rattle.nodes.specs.declared.reader.Found.{Found}
use Rattle.nodes.specs.Items.{Item}
use Rattle.nodes.specs.Image.{seen_in}
use Rattle.nodes.specs.Views.{View, view, item_shown}
use Rattle.nodes.specs.Walk.{walk_from}

abbrev pub rest : Reader → List (ℕ × Item)
rest r = walk_from (seen_in r.image) r.at

abbrev pub found_at : ℕ → ℕ × Item → Place × View
found_at b x = (record { block = b; offset = x.0 }, view x.1)

abbrev pub to_find : Reader → List (Place × View)
to_find r = map (found_at r.block) (rest r)

abbrev pub bytes_left : Reader → ℕ
bytes_left r = length r.image.bytes.now - r.at

abbrev pub first_of : ℕ → List (ℕ × Item) → Option (Place × View)
first_of b [] = None
first_of b (x ∷ xs) = Some (found_at b x)

abbrev pub behind : List (ℕ × Item) → List (ℕ × Item)
behind [] = []
behind (x ∷ xs) = xs

abbrev pub found_as : Found → Place × View
found_as f = (f.place, item_shown f.item)

abbrev pub found_shown : Option Found → Option (Place × View)
found_shown None = None
found_shown (Some f) = Some (found_as f)

-- where the reader s was asked for the next item, r is the answer, and t is the reader behind it
pub record HandsOut (s : Reader) (r : Option Found) (t : Reader) : Type 0 where
  pub yields : YieldsFirstBy found_as to_find s r t
  pub first : found_shown r ≡ first_of s.block (rest s)
  pub others : rest t ≡ behind (rest s)
  pub block : t.block ≡ s.block
  pub image : t.image ≡ s.image
