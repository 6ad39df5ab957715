-- The nodes that the tree cannot do without, in the subject's own words. Assumes nothing.
--
-- Needed      a node that stands in a pool is needed
-- needed      the same as a test
use Rattle.std.specs.Prelude.{◌≡◌, ℕ, ◌<◌, Bool, true, List, Some, ◌≢◌}
use Rattle.nodes.specs.Records.{Entry, Content}
use Rattle.tree.specs.Newest.{In}
use Rattle.tree.specs.Nodes.{Node, entry, content, entries, contents, titled, span_of}
use Rattle.tree.specs.Lookups.{needed_entry, needed_content}
use Rattle.tree.specs.Tree.{tree, title, last, giver, Names}

pub data Needed (p : List Node) : Node → Type 0 where
  -- an entry that counts
  counts : {e : Entry} → title p e.pino e.name ≡ Some e → (e.ino ≢ 0) → Needed p (entry e)
  -- a newest removal while an older entry of its name stands, in whichever block
  removes : {e : Entry} (f : Entry) → title p e.pino e.name ≡ Some e → e.ino ≡ 0
      → In (entry f) p → titled e.pino e.name f ≡ true → f.version < e.version → Needed p (entry e)
  -- of a number with a name, the newest content
  ends : {c : Content} → Names (tree p) c.ino → last p c.ino ≡ Some c → Needed p (content c)
  -- of a number with a name, a content that gives a byte below the length
  gives : {c : Content} (i : ℕ) → Names (tree p) c.ino → i < (tree p).long c.ino → giver p c.ino i ≡ Some c
      → Needed p (content c)

abbrev pub needed : List Node → Node → Bool
needed p (entry e) = needed_entry (λ e. e) (entries p) e
needed p (content c) = needed_content (λ e. e) span_of (entries p) (contents p) (span_of c)
