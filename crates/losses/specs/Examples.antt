-- Small blocks and what losses leave of them, computed. Assumes nothing.
--
-- filled        the marker, a zero word, padding of 16 bytes, and blank cells
-- spoilt        the same, with the zeros of the padding unreadable
-- torn          the same, with the header of the padding torn
-- foreign       after the marker an item of a kind that is passed over, with a body that cannot be read
-- entry_named   the fields of an entry with a name of one byte
-- named         after the marker an entry with the name a
-- renamed       the same, where a byte differs: the name is b, and the sums are those of a
-- other         the same, where the name is b and the sums are right
-- Examples      which of these losses are fair, and what is met after them
use Rattle.std.specs.Prelude.{◌≡◌, ℕ, true, false, List, [], ◌∷◌, ◌++◌, take, replicate}
use Rattle.flash.specs.Cells.{Cell, byte, lost, cells, blank}
use Rattle.nodes.specs.Walk.{walk, marker}
use Rattle.nodes.specs.Records.{Entry}
use Rattle.encode.specs.Encode.{zero_word, padding, head, entry_item}
use Rattle.losses.specs.Fair.{loss_fair}

unfoldable pub filled : List Cell
filled = cells (marker ++ (zero_word ++ (padding 16 ++ zero_word))) ++ blank 8

unfoldable pub spoilt : List Cell
spoilt = cells (marker ++ (zero_word ++ padding 16)) ++ (replicate 4 lost ++ blank 8)

unfoldable pub torn : List Cell
torn = cells (marker ++ zero_word) ++ (byte 0x85 ∷ byte 0x19 ∷ blank 22)

unfoldable pub foreign : List Cell
foreign = cells (marker ++ head 0x2006 16) ++ replicate 4 lost

abbrev pub entry_named : ℕ → Entry
entry_named c = record { pino = 1; version = 1; ino = 2; dtype = 8; name = c ∷ [] }

unfoldable pub named : List Cell
named = cells (marker ++ entry_item (entry_named 0x61)) ++ (cells (0 ∷ 0 ∷ 0 ∷ []) ++ blank 4)

unfoldable pub renamed : List Cell
renamed = cells (marker ++ take 40 (entry_item (entry_named 0x61))) ++ (byte 0x62 ∷ (cells (0 ∷ 0 ∷ 0 ∷ []) ++ blank 4))

unfoldable pub other : List Cell
other = cells (marker ++ entry_item (entry_named 0x62)) ++ (cells (0 ∷ 0 ∷ 0 ∷ []) ++ blank 4)

pub record Examples : Type 0 where
  pub met_filled : walk filled ≡ (0, marker) ∷ (12, zero_word) ∷ (16, padding 16) ∷ []
  -- of padding only the header counts
  pub spoilt_fair : loss_fair filled spoilt ≡ true
  pub met_spoilt : walk spoilt ≡ (0, marker) ∷ (12, zero_word) ∷ (16, padding 16) ∷ []
  -- a torn header does not pass
  pub torn_fair : loss_fair filled torn ≡ true
  pub met_torn : walk torn ≡ (0, marker) ∷ (12, zero_word) ∷ []
  -- padding that was not to stand does
  pub more_unfair : loss_fair torn filled ≡ false
  -- an erase that leaves nothing, and one that leaves zeros where the marker was
  pub erased_fair : loss_fair filled (blank 40) ≡ true
  pub zeros_fair : loss_fair filled (cells (replicate 40 0)) ≡ true
  -- a marker on a block that had none
  pub marker_unfair : loss_fair (blank 40) filled ≡ false
  -- an item whose body cannot be read is not as it was to be, and passes by its header
  pub met_foreign : walk foreign ≡ (0, marker) ∷ (12, head 0x2006 16) ∷ []
  pub foreign_unfair : loss_fair foreign foreign ≡ false
  -- a header that passes does not suffice where a sum of the node is wrong
  pub renamed_fair : loss_fair named renamed ≡ true
  pub met_renamed : walk renamed ≡ (0, marker) ∷ []
  -- a node that nobody laid, with sums that are right
  pub other_unfair : loss_fair named other ≡ false
