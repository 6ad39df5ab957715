-- The cells of a block, by its bytes as they were read and the flags of its pages of 4 bytes. Assumes nothing.
--
-- seen        the cells of a block: the byte, or that it cannot be read where the page's flag is false or missing
-- seen_from   the same of bytes that begin at a place of the block
-- readable    whether the n bytes at a place can all be read
-- reaching    whether bytes that begin at a place have n at least, and these can all be read
-- IsRead      the answer is the first n of the cells, if there are so many and they can all be read
use Rattle.std.specs.Prelude.{◌≡◌, ℕ, zero, suc, ◌/◌, ◌<◌, ◌≤◌, Bool, true, false, cond, List, [], ◌∷◌, length, take, Option, MatchOption, nat_le, slice_index_or}
use denote.Ref.{Bor}
use Rattle.flash.specs.Cells.{Cell, byte, lost, front}

unfoldable pub seen_from : List Bool → ℕ → List ℕ → List Cell
seen_from fs at [] = []
seen_from fs at (b ∷ bs) = cond (slice_index_or fs (at / 4) false) (byte b) lost ∷ seen_from fs (suc at) bs

abbrev pub seen : List Bool → List ℕ → List Cell
seen fs bs = seen_from fs 0 bs

unfoldable pub readable : List Bool → ℕ → ℕ → Bool
readable fs at zero = true
readable fs at (suc n) = cond (slice_index_or fs (at / 4) false) (readable fs (suc at) n) false

abbrev pub reaching : List Bool → ℕ → List ℕ → ℕ → Bool
reaching fs at bs n = nat_le n (length (front (seen_from fs at bs)))

abbrev pub IsRead : List Cell → ℕ → Option (Bor (List ℕ)) → Type 0
IsRead cs n r = MatchOption r (length (front cs) < n) (λ bytes. (n ≤ length (front cs)) × (bytes.now ≡ take n (front cs)))
