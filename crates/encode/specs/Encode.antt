-- Items made from their fields. Assumes nothing.
--
-- Bytes                       each number of a list is a byte
-- spread                      the bytes of words, one after the other
-- head                        the header of a kind and a length, with its sum; head8 are the bytes that the sum is of
-- zero_word                   four zeros, which a walk passes over
-- padding                     padding of n bytes; the header is what decides it, zeros follow
-- entry_item                  the item that has an entry's fields; entry32 is its fixed part, but for the sums
-- content_item                the item that has a content's fields; content60 is its fixed part, but for the sums
-- EntryFits, ContentFits      each field fits its place, and the name or the data is short enough
-- rest_of_batch               how many bytes there are from a place to the end of its batch, none where one ends there
-- filling                     what fills n bytes: padding, or zero words where there is no room for a header
use Rattle.std.specs.Prelude.{ℕ, ◌+◌, ◌-◌, ◌/◌, ◌%◌, ◌^◌, ◌<◌, ◌≤◌, cond, List, [], ◌∷◌, ◌++◌, length, replicate, nat_le}
use Rattle.std.specs.List.{flat_map}
use Rattle.crc32.specs.Sum.{sum}
use Rattle.nodes.specs.Fields.{bytes32}
use Rattle.nodes.specs.Items.{Item}
use Rattle.nodes.specs.Records.{Entry, Content}

abbrev pub Bytes : List ℕ → Type 0
Bytes [] = Unit {0}
Bytes (b ∷ bs) = (b < 256) × Bytes bs

unfoldable pub spread : List ℕ → List ℕ
spread = flat_map bytes32

-- magic, kind and length
unfoldable pub head8 : ℕ → ℕ → List ℕ
head8 k n = 0x85 ∷ 0x19 ∷ (k % 256) ∷ (k / 256 % 256) ∷ bytes32 n

unfoldable pub head : ℕ → ℕ → List ℕ
head k n = head8 k n ++ bytes32 (sum (head8 k n))

abbrev pub zero_word : Item
zero_word = 0 ∷ 0 ∷ 0 ∷ 0 ∷ []

unfoldable pub padding : ℕ → Item
padding n = head 0x2004 n

pub record EntryFits (x : Entry) : Type 0 where
  pub pino : x.pino < 2 ^ 32
  pub version : x.version < 2 ^ 32
  pub ino : x.ino < 2 ^ 32
  pub dtype : x.dtype < 256
  pub short : length x.name ≤ 32

-- the header, pino, version, ino, a word that is not used, nsize, dtype and two bytes that are not used
unfoldable pub entry32 : Entry → List ℕ
entry32 x =
    head 0xE001 (40 + length x.name)
    ++ (bytes32 x.pino ++ (bytes32 x.version ++ (bytes32 x.ino ++ (bytes32 0 ++ (length x.name ∷ x.dtype ∷ 0 ∷ 0 ∷ [])))))

-- the sum of the fixed part, the sum of the name, and the name
unfoldable pub entry_item : Entry → Item
entry_item x = entry32 x ++ (bytes32 (sum (entry32 x)) ++ (bytes32 (sum x.name) ++ x.name))

pub record ContentFits (x : Content) : Type 0 where
  pub ino : x.ino < 2 ^ 32
  pub version : x.version < 2 ^ 32
  pub mode : x.mode < 2 ^ 32
  pub isize : x.isize < 2 ^ 32
  pub offset : x.offset < 2 ^ 32
  pub dsize : x.dsize < 2 ^ 32
  pub compr : x.compr < 256
  pub short : length x.payload ≤ 512

-- the header, ino, version, mode, a word that is not used, isize, three more, offset, csize, dsize, compr and three bytes
-- that are not used
unfoldable pub content60 : Content → List ℕ
content60 x =
    head 0xE002 (68 + length x.payload)
    ++ (bytes32 x.ino ++ (bytes32 x.version ++ (bytes32 x.mode ++ (bytes32 0 ++ (bytes32 x.isize
    ++ (bytes32 0 ++ (bytes32 0 ++ (bytes32 0 ++ (bytes32 x.offset ++ (bytes32 (length x.payload) ++ (bytes32 x.dsize ++ (x.compr ∷ 0 ∷ 0 ∷ 0 ∷ []))))))))))))

-- the sum of the data, the sum of the fixed part, and the data
unfoldable pub content_item : Content → Item
content_item x = content60 x ++ (bytes32 (sum x.payload) ++ (bytes32 (sum (content60 x)) ++ x.payload))

abbrev pub rest_of_batch : ℕ → ℕ → ℕ
rest_of_batch batch end = (batch - end % batch) % batch

unfoldable pub filling : ℕ → List Item
filling n = cond (nat_le 12 n) (padding n ∷ []) (replicate (n / 4) zero_word)
