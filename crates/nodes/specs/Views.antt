-- Items as they are handed out, with their fields read. Assumes nothing.
--
-- View          a zero word; a marker or padding of so many bytes; an item of a kind that is not known, and its length;
--               an entry or a content, with all its bytes and its fields
-- view          what an item is
-- viewed        the same of what stands at a place
-- sized         and with the number of bytes that it takes up
-- item_shown    what the code's item stands for, with the bytes that it borrows
-- items_shown, standing_shown   the same of the code's answers
use Rattle.std.specs.Prelude.{ℕ, cond, List, Some, None, Option, ◌==◌}
use Rattle.nodes.specs.declared.item.Item as code
use Rattle.nodes.specs.declared.item.Item.TheVariants as case
use Rattle.nodes.specs.declared.tail.Standing as code_standing
use Rattle.nodes.specs.Items.{Item, kind, totlen, is_word, size}
use Rattle.nodes.specs.Records.{Entry, Content, read_entry, read_content}
use Rattle.nodes.specs.Shown.{entry_shown, content_shown}

pub data View : Type 0 where
  zero_word : View
  marker_of : ℕ → View
  padding_of : ℕ → View
  unknown_of : ℕ → ℕ → View
  entry_of : List ℕ → Entry → View
  content_of : List ℕ → Content → View

unfoldable pub view : Item → View
view it =
    cond (is_word it) zero_word
    (cond (kind it == 0x2003) (marker_of (totlen it))
    (cond (kind it == 0x2004) (padding_of (totlen it))
    (cond (kind it == 0xE001) (entry_of it (read_entry it))
    (cond (kind it == 0xE002) (content_of it (read_content it))
    (unknown_of (kind it) (totlen it))))))

abbrev pub viewed : Option Item → Option View
viewed None = None
viewed (Some it) = Some (view it)

abbrev pub sized : Option Item → Option (View × ℕ)
sized None = None
sized (Some it) = Some (view it, size it)

abbrev pub item_shown : code.Item → View
item_shown case.Zero = zero_word
item_shown (case.Marker length) = marker_of length
item_shown (case.Padding length) = padding_of length
item_shown (case.Unknown kind length) = unknown_of kind length
item_shown (case.Entry bytes entry) = entry_of bytes.now (entry_shown entry)
item_shown (case.Content bytes content) = content_of bytes.now (content_shown content)

abbrev pub items_shown : Option code.Item → Option View
items_shown None = None
items_shown (Some i) = Some (item_shown i)

abbrev pub standing_shown : Option code_standing.Standing → Option (View × ℕ)
standing_shown None = None
standing_shown (Some s) = Some (item_shown s.item, s.size)
