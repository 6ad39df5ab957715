-- Which blocks are spent. Assumes nothing.
--
-- pool        the nodes of all blocks
-- has_twin    whether a node has a twin among others
-- replaced    whether each needed node of a block has a twin among others
-- marks       the rising look for spent blocks: in rising order a block is spent (true) if each needed node in it has a twin
--             in another block not so far found spent. The nodes of the blocks found full are handed on
-- unspent     the nodes of the blocks that are not marked spent
use Rattle.std.specs.Prelude.{Bool, true, false, cond, not, ◌&&◌, ◌||◌, List, [], ◌∷◌, ◌++◌}
use Rattle.std.specs.List.{list_any}

abbrev pub pool : {N : Type 0} → List (List N) → List N
pool [] = []
pool (b ∷ bs) = b ++ pool bs

module _ {N : Type 0} (twin : N → N → Bool) where
  abbrev pub has_twin : N → List N → Bool
  has_twin m = list_any (twin m)

  module _ (need : N → Bool) where
    abbrev pub replaced : List N → List N → Bool
    replaced [] others = true
    replaced (m ∷ ms) others = (not (need m) || has_twin m others) && replaced ms others

    abbrev pub marks : List N → List (List N) → List Bool
    marks full [] = []
    marks full (b ∷ bs) = cond (replaced b (full ++ pool bs)) (true ∷ marks full bs) (false ∷ marks (full ++ b) bs)

abbrev pub unspent : {N : Type 0} → List Bool → List (List N) → List N
unspent [] bs = []
unspent (s ∷ ss) [] = []
unspent (s ∷ ss) (b ∷ bs) = cond s (unspent ss bs) (b ++ unspent ss bs)
