-- Numbers in lists of bytes, the low byte first. Assumes nothing.
--
-- le16, le32    the number in the 2 or 4 bytes at a place
-- bytes32       the 4 bytes of a number
-- padded        the next multiple of 4, at which every item begins
-- all           whether every test of a list is passed
use Rattle.std.specs.Prelude.{ℕ, ◌+◌, ◌*◌, ◌/◌, ◌%◌, Bool, true, false, cond, List, [], ◌∷◌, slice_index}

unfoldable pub le16 : List ℕ → ℕ → ℕ
le16 bs at = slice_index bs at + slice_index bs (at + 1) * 256

unfoldable pub le32 : List ℕ → ℕ → ℕ
le32 bs at = slice_index bs at + slice_index bs (at + 1) * 256 + slice_index bs (at + 2) * 65536 + slice_index bs (at + 3) * 16777216

abbrev pub bytes32 : ℕ → List ℕ
bytes32 n = (n % 256) ∷ (n / 256 % 256) ∷ (n / 65536 % 256) ∷ (n / 16777216 % 256) ∷ []

abbrev pub padded : ℕ → ℕ
padded n = (n + 3) / 4 * 4

abbrev pub all : List Bool → Bool
all [] = true
all (b ∷ bs) = cond b (all bs) false
