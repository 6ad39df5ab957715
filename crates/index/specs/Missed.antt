-- Which blocks can be done without, among the records of an index. Assumes nothing.
--
-- Kept          a record of a node of either kind
-- nodes_in      the records of a block
-- is_spent      whether a block is spent
-- kept_in       what a block has, if it is not spent
-- elsewhere     the other blocks than that of a number
-- twin_of       records of one kind, number and version
-- need          whether a node is needed, of all that stand, in whichever block
-- missed        whether a node would be missed without its block: it is needed, and no other block that is not spent has a twin
-- misses        whether a block has such a node
-- with_state    a block in another state
-- changed       blocks of which that of a number is in another state
-- marked        blocks with the states that marks give them: spent or full
use Rattle.std.specs.Prelude.{ℕ, zero, suc, Bool, true, false, cond, not, ◌&&◌, List, [], ◌∷◌, ◌++◌, map, take, drop, ◌==◌}
use Rattle.std.specs.List.{flat_map, list_any}
use Rattle.tree.specs.Nodes.{NodeOf, entry, content}
use Rattle.tree.specs.Lookups.{needed_entry, needed_content}
use Rattle.tree.specs.Spent.{has_twin}
use Rattle.index.specs.declared.block.Block.{Block}
use Rattle.index.specs.declared.block.State.{State}
use Rattle.index.specs.declared.block.State.TheVariants.{Spent, Bare, Open, Full}
use Rattle.index.specs.declared.record.EntryRecord.{EntryRecord}
use Rattle.index.specs.declared.record.ContentRecord.{ContentRecord}
use Rattle.index.specs.Blocks.{entries_in, contents_in, all_entries, all_contents}
use Rattle.index.specs.Shown.{entry_shown, span_shown}

abbrev pub Kept : Type 0
Kept = NodeOf EntryRecord ContentRecord

abbrev pub nodes_in : Block → List Kept
nodes_in b = map entry (entries_in b) ++ map content (contents_in b)

abbrev pub is_spent : State → Bool
is_spent Spent = true
is_spent Bare = false
is_spent (Open end) = false
is_spent Full = false

abbrev pub kept_in : {R : Type 0} → (Block → List R) → Block → List R
kept_in listed b = cond (is_spent b.state) [] (listed b)

abbrev pub elsewhere : ℕ → List Block → List Block
elsewhere home bs = take home bs ++ drop (suc home) bs

abbrev pub twin_of : Kept → Kept → Bool
twin_of (entry e) (entry f) = f.pino == e.pino && f.version == e.version
twin_of (entry e) (content d) = false
twin_of (content c) (entry f) = false
twin_of (content c) (content d) = d.ino == c.ino && d.version == c.version

unfoldable pub need : List Block → Kept → Bool
need bs (entry e) = needed_entry entry_shown (all_entries bs) (entry_shown e)
need bs (content c) = needed_content entry_shown span_shown (all_entries bs) (all_contents bs) (span_shown c)

unfoldable pub missed : List Block → ℕ → Kept → Bool
missed bs home m = need bs m && not (has_twin twin_of m (flat_map (kept_in nodes_in) (elsewhere home bs)))

unfoldable pub misses : List Block → ℕ → Bool
misses bs home = list_any (missed bs home) (flat_map nodes_in (take 1 (drop home bs)))

abbrev pub with_state : State → Block → Block
with_state s b = record { state = s; entries = b.entries; contents = b.contents }

abbrev pub changed : ℕ → State → List Block → List Block
changed i s [] = []
changed zero s (b ∷ bs) = with_state s b ∷ bs
changed (suc i) s (b ∷ bs) = b ∷ changed i s bs

abbrev pub marked : List Bool → List Block → List Block
marked [] bs = []
marked (m ∷ ms) [] = []
marked (m ∷ ms) (b ∷ bs) = with_state (cond m Spent Full) b ∷ marked ms bs
