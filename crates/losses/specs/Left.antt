-- What a loss leaves of the items that were to stand. Assumes nothing.
--
-- FirstPart    xs are the first of ys, in their order
-- is_node      whether an item is an entry or a content
-- nodes_of     the nodes among items, without their places
-- Leading      items are the first of others, and so are their nodes
-- finished     the first items of a list, up to the first of which a byte that decides it lies at k or behind
-- Kept         each item of the list is met of which all bytes that decide it lie before k; these items lead those met
-- Finished     the batches of a block that end at e or before are settled: nothing is held in them
-- Synced       the items that the block shows end at e, where a batch ends, and the batches up to there are settled
use Rattle.std.specs.Prelude.{◌≡◌, ℕ, ◌+◌, ◌≤◌, Bool, true, cond, List, [], ◌∷◌, ◌++◌, length, take, ◌==◌, nat_le}
use mathlib.Core.List.{Memᴰ}
use Rattle.flash.specs.Meaning.{Meaning, batch_end}
use Rattle.nodes.specs.Items.{Item, kind}
use Rattle.nodes.specs.Walk.{walk, end_of}

abbrev pub FirstPart : {X : Type 0} → List X → List X → Type 0
FirstPart {X} xs ys = (more : List X) × (ys ≡ xs ++ more)

abbrev pub is_node : Item → Bool
is_node it = cond (kind it == 0xE001) true (kind it == 0xE002)

abbrev pub nodes_of : List (ℕ × Item) → List Item
nodes_of [] = []
nodes_of (x ∷ xs) = cond (is_node x.1) (x.1 ∷ nodes_of xs) (nodes_of xs)

pub record Leading (xs ys : List (ℕ × Item)) : Type 0 where
  pub items : FirstPart xs ys
  pub nodes : FirstPart (nodes_of xs) (nodes_of ys)

abbrev pub finished : ℕ → List (ℕ × Item) → List (ℕ × Item)
finished k [] = []
finished k (x ∷ xs) = cond (nat_le (x.0 + length x.1) k) (x ∷ finished k xs) []

pub record Kept (k : ℕ) (list met : List (ℕ × Item)) : Type 0 where
  pub each : (x : ℕ × Item) → Memᴰ x list → x.0 + length x.1 ≤ k → Memᴰ x met
  pub leading : Leading (finished k list) met

abbrev pub Finished : Meaning → ℕ → ℕ → Type 0
Finished m b e = take (batch_end m e) (m.shown b) ≡ take (batch_end m e) (m.settled b)

pub record Synced (m : Meaning) (b e : ℕ) : Type 0 where
  pub ends : end_of 0 (walk (m.shown b)) ≡ e
  pub at_batch : batch_end m e ≡ e
  pub settled : Finished m b e
