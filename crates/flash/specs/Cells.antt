-- What a block holds, byte by byte. Assumes nothing.
--
-- Cell     what a read of one byte finds: the byte, or that its page cannot be read
-- cells    bytes, all of them readable
-- blank    n cells as an erase leaves them
-- over     a row of cells with another laid over it from a place on
-- front    the bytes up to the first cell that cannot be read
use Rattle.std.specs.Prelude.{ℕ, ◌+◌, List, [], ◌∷◌, ◌++◌, map, length, take, drop, replicate}

pub data Cell : Type 0 where
  byte : ℕ → Cell
  lost : Cell

abbrev pub cells : List ℕ → List Cell
cells = map byte

abbrev pub blank : ℕ → List Cell
blank n = replicate n (byte 255)

abbrev pub over : {X : Type 0} → List X → ℕ → List X → List X
over xs o ys = take o xs ++ (ys ++ drop (o + length ys) xs)

unfoldable pub front : List Cell → List ℕ
front [] = []
front (byte b ∷ cs) = b ∷ front cs
front (lost ∷ cs) = []
