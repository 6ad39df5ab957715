-- What the calls that make bytes do to the caller's buffer. Assumes nothing.
--
-- Made           where the test is passed, n is answered, and after the call the buffer holds what was to be made; else nothing
--                is answered, and the buffer holds what it held before
-- ItemMade       so it is with an item at the front of the buffer, zeros behind it up to its size; the test is that what it
--                holds is short enough, and that there is room
-- filling_goes   the test of what fills a batch from a place on: the batch is not empty, its rest is whole words, no more than a
--                header can say, and there is room
use Rattle.std.specs.Prelude.{◌≡◌, ℕ, ◌%◌, ◌^◌, Bool, true, false, List, [], ◌∷◌, ◌++◌, length, drop, Some, None, Option, ◌==◌, nat_le, nat_lt}
use Rattle.nodes.specs.Fields.{all}
use Rattle.nodes.specs.Items.{Item, size}
use Rattle.encode.specs.Encode.{rest_of_batch}
use Rattle.encode.specs.Laid.{laid}

abbrev pub Made : Bool → ℕ → List ℕ → List ℕ → List ℕ → Option ℕ → Type 0
Made true n made before after r = (r ≡ Some n) × (after ≡ made)
Made false n made before after r = (r ≡ None) × (after ≡ before)

abbrev pub ItemMade : Bool → Item → List ℕ → List ℕ → Option ℕ → Type 0
ItemMade short it before after r =
    Made (all (short ∷ nat_le (size it) (length before) ∷ [])) (size it) (laid it ++ drop (size it) before) before after r

abbrev pub filling_goes : ℕ → ℕ → ℕ → Bool
filling_goes batch end room =
    all (nat_lt 0 batch ∷ (rest_of_batch batch end % 4 == 0) ∷ nat_lt (rest_of_batch batch end) (2 ^ 32) ∷ nat_le (rest_of_batch batch end) room ∷ [])
