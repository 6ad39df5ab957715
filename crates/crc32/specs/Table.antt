-- When a table has the rounds of each byte. Assumes nothing.
--
-- every         a test passes at each entry of a list and its place, counted from i
-- HasRounds     256 entries, at each place k what eight rounds make of k
use Rattle.std.specs.Prelude.{◌≡◌, ℕ, suc, Bool, true, false, cond, T, List, [], ◌∷◌, length, ◌==◌}
use Rattle.crc32.specs.Sum.{rounds}

abbrev pub every : (ℕ → ℕ → Bool) → ℕ → List ℕ → Bool
every f i [] = true
every f i (x ∷ xs) = cond (f i x) (every f (suc i) xs) false

abbrev pub right : ℕ → ℕ → Bool
right k x = x == rounds 8 k

unfoldable pub HasRounds : List ℕ → Type 0
HasRounds xs = (length xs ≡ 256) × T (every right 0 xs)
