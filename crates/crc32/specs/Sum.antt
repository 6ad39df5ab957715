-- The sum over bytes: CRC-32, reflected, polynomial 0xEDB88320, start 0, no final inversion. Assumes nothing.
--
-- round    one bit is shifted out; a one takes the polynomial in
-- rounds   so many of these
-- fed      the sum so far takes one byte in
-- sum      the sum of a list of bytes
use Rattle.std.specs.Prelude.{ℕ, zero, suc, ◌/◌, ◌%◌, cond, List, [], ◌∷◌, ◌==◌, bit_xor}

abbrev pub round : ℕ → ℕ
round c = cond (c % 2 == 1) (bit_xor (c / 2) 0xEDB88320) (c / 2)

unfoldable pub rounds : ℕ → ℕ → ℕ
rounds zero c = c
rounds (suc k) c = rounds k (round c)

unfoldable pub fed : ℕ → ℕ → ℕ
fed c b = rounds 8 (bit_xor c b)

unfoldable pub sum_from : ℕ → List ℕ → ℕ
sum_from c [] = c
sum_from c (b ∷ bs) = sum_from (fed c b) bs

unfoldable pub sum : List ℕ → ℕ
sum bs = sum_from 0 bs
