-- The tree that nodes show, and what a node makes of a tree. Assumes nothing.
--
-- Target      what a name stands for: a number, and whether it is a file (8) or a directory (4)
-- Tree        what stands under each name of each directory, and the length and the bytes of each number. What a number
--             without a name holds is not seen: it waits for its entry
-- tree        the tree that nodes show
-- Names       a name of the tree stands for a number
-- Same        no difference between two trees can be seen
-- apply       what a node makes of a tree: an entry sets or removes its name; a content sets the length, dropping what lies
--             behind, and then sets its range
-- applied     nodes applied in order
use Rattle.std.specs.Prelude.{◌≡◌, ℕ, ◌<◌, min, cond, List, [], ◌∷◌, Some, None, Option, ◌==◌, nat_lt}
use Rattle.nodes.specs.Records.{Entry, Content}
use Rattle.tree.specs.Nodes.{Node, entry, content, entries, contents, titled, of_file, covers, span_of, byte_of}
use Rattle.tree.specs.Lookups as look

pub record Target : Type 0 where
  pub ino : ℕ
  pub dtype : ℕ

pub record Tree : Type 0 where
  pub there : ℕ → List ℕ → Option Target
  pub long : ℕ → ℕ
  pub byte : ℕ → ℕ → ℕ

-- the newest entry of a name, the newest content of a number, and the newest that gives its byte i
abbrev pub title : List Node → ℕ → List ℕ → Option Entry
title p = look.title (λ e. e) (entries p)

abbrev pub last : List Node → ℕ → Option Content
last p = look.last span_of (contents p)

abbrev pub giver : List Node → ℕ → ℕ → Option Content
giver p = look.giver span_of (contents p)

-- an entry counts unless it is a removal
abbrev pub target : Entry → Option Target
target e = cond (e.ino == 0) None (Some (record { ino = e.ino; dtype = e.dtype }))

abbrev pub target_of : Option Entry → Option Target
target_of None = None
target_of (Some e) = target e

abbrev pub length_of : Option Content → ℕ
length_of = look.length_of span_of

abbrev pub value_of : ℕ → Option Content → ℕ
value_of i None = 0
value_of i (Some c) = byte_of c i

abbrev pub tree : List Node → Tree
tree p = record {
  there = λ d n. target_of (title p d n);
  long = λ k. length_of (last p k);
  byte = λ k i. value_of i (giver p k i);
}

pub record Names (t : Tree) (k : ℕ) : Type 0 where
  pub dir : ℕ
  pub name : List ℕ
  pub dtype : ℕ
  pub is : t.there dir name ≡ Some (record { ino = k; dtype = dtype })

pub record SameFile (t u : Tree) (k : ℕ) : Type 0 where
  pub long : t.long k ≡ u.long k
  pub byte : (i : ℕ) → i < t.long k → t.byte k i ≡ u.byte k i

pub record Same (t u : Tree) : Type 0 where
  pub there : (d : ℕ) (n : List ℕ) → t.there d n ≡ u.there d n
  pub file : (k : ℕ) → Names t k → SameFile t u k

-- the byte i of a file that was n long and had the byte b there, once a content is laid over it
abbrev pub laid_over : Content → ℕ → ℕ → ℕ → ℕ
laid_over c n i b = cond (covers i (span_of c)) (byte_of c i) (cond (nat_lt i (min n c.isize)) b 0)

abbrev pub apply : Node → Tree → Tree
apply (entry e) t = record {
  there = λ d n. cond (titled d n e) (target e) (t.there d n);
  long = t.long;
  byte = t.byte;
}
apply (content c) t = record {
  there = t.there;
  long = λ k. cond (of_file k (span_of c)) c.isize (t.long k);
  byte = λ k i. cond (of_file k (span_of c)) (laid_over c (t.long k) i (t.byte k i)) (t.byte k i);
}

abbrev pub applied : Tree → List Node → Tree
applied t [] = t
applied t (n ∷ ns) = applied (apply n t) ns
