-- What follows from the rules, for every pool of nodes. Assumes nothing.
--
-- SameNodesSameTree           whatever the order, the blocks and the number of copies
-- DroppingKeepsTheTree        what is not needed can be dropped, and nothing becomes needed by that
-- LayingApplies                a fresh node laid on a pool is applied to its tree
-- LayingNeedsNothingMore      and makes nothing else needed again, but what waited for it
-- LayingTellsApart            and leaves no two nodes of one kind, number and version
-- RoomSpoilsNothing           nodes that a call may lay may still be laid after anything not needed was dropped
-- CallsApply, CallsNeedTheirs, CallsTellApart   the same of every first run of the nodes that a call lays
-- NeededIsDecided             the test tells which standing nodes are needed
-- NewestInOnePass             the newest is found record by record
-- ASpentBlockIsFound          marking the blocks in rising order finds a spent one wherever some block can be done without
-- NeededStandsUnspent         and when it ends, what is needed stands in a block that is not spent; these show the same tree
-- LookingTheSame              is an equivalence of trees
-- LookupsOfRecords            what is looked up among records of nodes is what is looked up among the nodes
-- Lawful                        all of these, and the examples; shut, so that whoever only asks which version counts does not
--                               have to look through them
use Rattle.std.specs.Prelude.{◌≡◌, ℕ, Bool, true, ◌⊎◌, List, [], ◌∷◌, ◌++◌, map, take, None, Decides}
use Rattle.nodes.specs.Records.{Entry, Content}
use Rattle.tree.specs.Newest.{In, Within, newest, scan}
use Rattle.tree.specs.Nodes.{Node, Span, span_of, twin, Uniq}
use Rattle.tree.specs.Lookups as look
use Rattle.tree.specs.Tree.{Tree, tree, apply, applied, Same}
use Rattle.tree.specs.Needed.{Needed, needed}
use Rattle.tree.specs.Fresh.{Above, Fresh, Ready, Awaited, Layable, laid, Keeps}
use Rattle.tree.specs.Spent.{pool, marks, unspent}
use Rattle.tree.specs.Examples.{Examples}

abbrev pub SameNodesSameTree : Type 0
SameNodesSameTree = (p q : List Node) → Uniq p → Within q p → Within p q → Same (tree q) (tree p)

abbrev pub DroppingKeepsTheTree : Type 0
DroppingKeepsTheTree =
    (p q : List Node) → Uniq p → Keeps p q → Same (tree q) (tree p) × ((m : Node) → Needed q m → Needed p m)

abbrev pub LayingApplies : Type 0
LayingApplies =
    (n : Node) (p : List Node) (t : Tree) → Fresh n p → Ready n p t → Same t (tree p) → Same (apply n t) (tree (n ∷ p))

abbrev pub LayingNeedsNothingMore : Type 0
LayingNeedsNothingMore =
    (n : Node) (p : List Node) → Fresh n p → (m : Node) → Needed (n ∷ p) m → (m ≡ n) ⊎ (Needed p m ⊎ Awaited p n m)

abbrev pub LayingTellsApart : Type 0
LayingTellsApart = (n : Node) (p : List Node) → Above n p → Uniq p → Uniq (n ∷ p)

abbrev pub RoomSpoilsNothing : Type 0
RoomSpoilsNothing = (p q ns : List Node) → Uniq p → Keeps p q → Layable p ns → Layable q ns

abbrev pub CallsApply : Type 0
CallsApply =
    (p ns : List Node) (t : Tree) (k : ℕ) → Layable p ns → Same t (tree p)
    → Same (applied t (take k ns)) (tree (laid p (take k ns)))

abbrev pub CallsNeedTheirs : Type 0
CallsNeedTheirs =
    (p ns : List Node) (k : ℕ) (m : Node) → Layable p ns → Needed (laid p (take k ns)) m → In m (take k ns) ⊎ Needed p m

abbrev pub CallsTellApart : Type 0
CallsTellApart = (p ns : List Node) (k : ℕ) → Layable p ns → Uniq p → Uniq (laid p (take k ns))

abbrev pub NeededIsDecided : Type 0
NeededIsDecided = (p : List Node) (m : Node) → Uniq p → In m p → Decides (needed p m) (Needed p m)

abbrev pub NewestInOnePass : Type 0
NewestInOnePass =
    (version : Node → ℕ) (picked : Node → Bool) (rs : List Node) → scan version picked None rs ≡ newest version picked rs

abbrev pub ASpentBlockIsFound : Type 0
ASpentBlockIsFound =
    (below : List (List Node)) (b : List Node) (above : List (List Node)) → Uniq (pool (below ++ (b ∷ above)))
    → ((m : Node) → In m b → Needed (pool (below ++ (b ∷ above))) m → In m (pool below ++ pool above))
    → In true (marks twin (needed (pool (below ++ (b ∷ above)))) [] (below ++ (b ∷ above)))

pub record NeededStandsUnspent : Type 0 where
  pub holds : (bs : List (List Node)) (m : Node) → Uniq (pool bs) → Needed (pool bs) m
      → In m (unspent (marks twin (needed (pool bs)) [] bs) bs)
  pub shows : (bs : List (List Node)) → Uniq (pool bs)
      → Same (tree (unspent (marks twin (needed (pool bs)) [] bs) bs)) (tree (pool bs))

pub record LookingTheSame : Type 0 where
  pub back : (t u : Tree) → Same t u → Same u t
  pub onward : (t u v : Tree) → Same t u → Same u v → Same t v

-- records are numbers, as the places of the nodes: `fields` and `whole` give what each is a record of
pub record LookupsOfRecords : Type 0 where
  pub title : (fields : ℕ → Entry) (rs : List ℕ) (d : ℕ) (n : List ℕ)
      → look.title (λ e. e) (map fields rs) d n ≡ look.carried fields (look.title fields rs d n)
  pub counts : (fields : ℕ → Entry) (rs : List ℕ) (e : Entry) → look.counts (λ e. e) (map fields rs) e ≡ look.counts fields rs e
  pub named : (fields : ℕ → Entry) (rs : List ℕ) (k : ℕ) → look.named (λ e. e) (map fields rs) k ≡ look.named fields rs k
  pub needed_entry : (fields : ℕ → Entry) (rs : List ℕ) (e : Entry)
      → look.needed_entry (λ e. e) (map fields rs) e ≡ look.needed_entry fields rs e
  pub last : (whole : ℕ → Content) (rs : List ℕ) (k : ℕ)
      → look.last span_of (map whole rs) k ≡ look.carried whole (look.last (λ r. span_of (whole r)) rs k)
  pub giver : (whole : ℕ → Content) (rs : List ℕ) (k i : ℕ)
      → look.giver span_of (map whole rs) k i ≡ look.carried whole (look.giver (λ r. span_of (whole r)) rs k i)
  pub seen : (whole : ℕ → Content) (rs : List ℕ) (s : Span)
      → look.seen span_of (map whole rs) s ≡ look.seen (λ r. span_of (whole r)) rs s
  pub needed_content : (fields : ℕ → Entry) (whole : ℕ → Content) (rs qs : List ℕ) (s : Span)
      → look.needed_content (λ e. e) span_of (map fields rs) (map whole qs) s
      ≡ look.needed_content fields (λ r. span_of (whole r)) rs qs s

pub record Laws : Type 0 where
  pub same_nodes : SameNodesSameTree
  pub dropping : DroppingKeepsTheTree
  pub applies : LayingApplies
  pub needs_nothing_more : LayingNeedsNothingMore
  pub tells_apart : LayingTellsApart
  pub room : RoomSpoilsNothing
  pub calls_apply : CallsApply
  pub calls_need : CallsNeedTheirs
  pub calls_apart : CallsTellApart
  pub decided : NeededIsDecided
  pub one_pass : NewestInOnePass
  pub spent_found : ASpentBlockIsFound
  pub stands_unspent : NeededStandsUnspent
  pub looking : LookingTheSame
  pub lookups : LookupsOfRecords
  pub examples : Examples

unfoldable pub Lawful : Type 0
Lawful = Laws
