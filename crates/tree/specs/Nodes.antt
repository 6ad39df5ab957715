-- The nodes that stand on a flash, by what the rules of the tree look at. Assumes nothing.
--
-- Span                a content without its data: the length that it gives its file, and which bytes of the file it gives
-- span_of             that of a content
-- byte_of             the byte that a content gives at a place of its file: of a hole 0
-- NodeOf              a node: an entry or a content, in whatever form these are kept
-- Node                with all its fields
-- entries, contents   those among nodes
-- titled              the key of an entry is its directory and its name
-- of_file             the key of a content is its number
-- covers              whether a content gives the byte i of its file
-- number, version     the number that versions are counted for, and the version
-- twin                nodes of one kind, number and version: copies of one node, wherever a mount was accepted
-- Uniq                a mount accepts only that: of one kind, number and version there is one node
use Rattle.std.specs.Prelude.{◌≡◌, ℕ, ◌+◌, ◌-◌, Bool, false, cond, ◌&&◌, List, [], ◌∷◌, ◌==◌, nat_le, nat_lt, slice_index}
use Rattle.std.specs.Str.{bytes_eq}
use Rattle.nodes.specs.Records.{Entry, Content}
use Rattle.tree.specs.Newest.{In}

pub record Span : Type 0 where
  pub ino : ℕ
  pub version : ℕ
  pub isize : ℕ
  pub offset : ℕ
  pub dsize : ℕ

abbrev pub span_of : Content → Span
span_of c = record { ino = c.ino; version = c.version; isize = c.isize; offset = c.offset; dsize = c.dsize }

abbrev pub byte_of : Content → ℕ → ℕ
byte_of c i = cond (c.compr == 1) 0 (slice_index c.payload (i - c.offset))

pub data NodeOf (E C : Type 0) : Type 0 where
  entry : E → NodeOf E C
  content : C → NodeOf E C

abbrev pub Node : Type 0
Node = NodeOf Entry Content

abbrev pub entries : {E C : Type 0} → List (NodeOf E C) → List E
entries [] = []
entries (entry e ∷ p) = e ∷ entries p
entries (content c ∷ p) = entries p

abbrev pub contents : {E C : Type 0} → List (NodeOf E C) → List C
contents [] = []
contents (entry e ∷ p) = contents p
contents (content c ∷ p) = c ∷ contents p

unfoldable pub titled : ℕ → List ℕ → Entry → Bool
titled d n e = e.pino == d && bytes_eq e.name n

unfoldable pub of_file : ℕ → Span → Bool
of_file k s = s.ino == k

unfoldable pub covers : ℕ → Span → Bool
covers i s = nat_le s.offset i && nat_lt i (s.offset + s.dsize)

abbrev pub number : Node → ℕ
number (entry e) = e.pino
number (content c) = c.ino

abbrev pub version : Node → ℕ
version (entry e) = e.version
version (content c) = c.version

abbrev pub twin : Node → Node → Bool
twin (entry e) (entry f) = e.pino == f.pino && e.version == f.version
twin (entry e) (content d) = false
twin (content c) (entry f) = false
twin (content c) (content d) = c.ino == d.ino && c.version == d.version

pub record Uniq (p : List Node) : Type 0 where
  pub entry : (e f : Entry) → In (entry e) p → In (entry f) p → e.pino ≡ f.pino → e.version ≡ f.version → e ≡ f
  pub content : (c d : Content) → In (content c) p → In (content d) p → c.ino ≡ d.ino → c.version ≡ d.version → c ≡ d
