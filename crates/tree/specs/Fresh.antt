-- When nodes may be laid beside those that stand. Assumes nothing.
--
-- Above       a node's version is above every standing one of its number, in either kind
-- Closed      a content gives each byte between the old length of its number and the new one
-- Fresh       a single node may be laid
-- Ready       what an entry names is named already, or waits in the tree as it stands
-- Awaited     a content that waited for an entry
-- Allowed     a node may be laid in a call that has laid others already: what is not yet named begins empty in the same call
-- Layable     a call may lay these nodes in this order
-- laid        nodes laid in order
-- Keeps       q is a part of p with all that is needed in p
use Rattle.std.specs.Prelude.{◌≡◌, ℕ, ◌<◌, ◌≤◌, true, ◌⊎◌, List, [], ◌∷◌, Some, ◌≢◌}
use Rattle.nodes.specs.Records.{Entry, Content}
use Rattle.tree.specs.Newest.{In, Within}
use Rattle.tree.specs.Nodes.{Node, entry, content, number, version, covers, span_of}
use Rattle.tree.specs.Tree.{Tree, tree, last, Names, SameFile}
use Rattle.tree.specs.Needed.{Needed}

abbrev pub Above : Node → List Node → Type 0
Above n p = (m : Node) → In m p → number m ≡ number n → version m < version n

abbrev pub Closed : Content → List Node → Type 0
Closed c p = (i : ℕ) → (tree p).long c.ino ≤ i → i < c.isize → covers i (span_of c) ≡ true

abbrev pub Fresh : Node → List Node → Type 0
Fresh (entry e) p = Above (entry e) p
Fresh (content c) p = Above (content c) p × Closed c p

abbrev pub Ready : Node → List Node → Tree → Type 0
Ready (entry e) p t = (e.ino ≢ 0) → Names (tree p) e.ino ⊎ SameFile t (tree p) e.ino
Ready (content c) p t = Unit {0}

pub data Awaited (p : List Node) : Node → Node → Type 0 where
  awaited : {e : Entry} {c : Content} → (e.ino ≢ 0) → (Names (tree p) e.ino → ⊥) → c.ino ≡ e.ino → In (content c) p
      → Awaited p (entry e) (content c)

-- the number k begins empty: its newest content, which the call has laid, has length 0
pub record Begun (done p : List Node) (k : ℕ) : Type 0 where
  pub start : Content
  pub by_call : In (content start) done
  pub newest : last p k ≡ Some start
  pub empty : start.isize ≡ 0

abbrev pub Allowed : List Node → Node → List Node → Type 0
Allowed done (entry e) p = Above (entry e) p × ((e.ino ≡ 0) ⊎ (Names (tree p) e.ino ⊎ Begun done p e.ino))
Allowed done (content c) p = Above (content c) p × ((Names (tree p) c.ino × Closed c p) ⊎ (c.isize ≡ 0))

-- after those of done, on a pool that has them
abbrev pub LayableAfter : List Node → List Node → List Node → Type 0
LayableAfter done p [] = Unit {0}
LayableAfter done p (n ∷ ns) = Allowed done n p × LayableAfter (n ∷ done) (n ∷ p) ns

abbrev pub Layable : List Node → List Node → Type 0
Layable p ns = LayableAfter [] p ns

abbrev pub laid : List Node → List Node → List Node
laid p [] = p
laid p (n ∷ ns) = laid (n ∷ p) ns

pub record Keeps (p q : List Node) : Type 0 where
  pub part : Within q p
  pub all_needed : (m : Node) → Needed p m → In m q
