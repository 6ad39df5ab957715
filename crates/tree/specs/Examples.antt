-- Pools and trees worked out: a file "a" of number 2 in the directory 1, and others. Assumes nothing.
use Rattle.std.specs.Prelude.{◌≡◌, ℕ, Bool, true, false, List, [], ◌∷◌, ◌++◌, map, length, Some, None}
use Rattle.tree.specs.Nodes.{Node, entry, content, twin}
use Rattle.tree.specs.Tree.{Tree, tree, apply, applied}
use Rattle.tree.specs.Needed.{needed}
use Rattle.tree.specs.Fresh.{Layable}
use Rattle.tree.specs.Spent.{pool, marks}

abbrev pub a : List ℕ
a = 97 ∷ []

abbrev pub b : List ℕ
b = 98 ∷ []

-- in the directory d with the version v, the name n stands for the number k
abbrev pub file : ℕ → ℕ → ℕ → List ℕ → Node
file d v k n = entry (record { pino = d; version = v; ino = k; dtype = 8; name = n })

abbrev pub directory : ℕ → ℕ → ℕ → List ℕ → Node
directory d v k n = entry (record { pino = d; version = v; ino = k; dtype = 4; name = n })

abbrev pub removal : ℕ → ℕ → List ℕ → Node
removal d v n = entry (record { pino = d; version = v; ino = 0; dtype = 0; name = n })

-- of the number 2 with the version v and the new length: bytes from a place on, a hole of a size from a place on, no bytes
abbrev pub bytes : ℕ → ℕ → ℕ → List ℕ → Node
bytes v long place bs =
    content
    (record {
      ino = 2;
      version = v;
      mode = 33188;
      isize = long;
      offset = place;
      dsize = length bs;
      compr = 0;
      payload = bs;
    })

abbrev pub hole : ℕ → ℕ → ℕ → ℕ → Node
hole v long place size =
    content
    (record { ino = 2; version = v; mode = 33188; isize = long; offset = place; dsize = size; compr = 1; payload = [] })

abbrev pub resized : ℕ → ℕ → Node
resized v long = bytes v long 0 []

-- an empty file; three bytes at place 2 of it; cut to 3 and then made 5 long again; removed; made again with the number 3
abbrev pub made : List Node
made = file 1 1 2 a ∷ resized 1 0 ∷ []

abbrev pub filled : List Node
filled = bytes 3 5 2 (7 ∷ 8 ∷ 9 ∷ []) ∷ hole 2 2 0 2 ∷ made

abbrev pub regrown : List Node
regrown = hole 5 5 3 2 ∷ resized 4 3 ∷ filled

abbrev pub gone : List Node
gone = removal 1 2 a ∷ filled

abbrev pub again : List Node
again = file 1 3 3 a ∷ gone

-- the five bytes of the number 2
abbrev pub five : Tree → List ℕ
five t = map (t.byte 2) (0 ∷ 1 ∷ 2 ∷ 3 ∷ 4 ∷ [])

abbrev pub wants : List Node → List Bool
wants p = map (needed p) p

abbrev pub spent : List (List Node) → List Bool
spent bs = marks twin (needed (pool bs)) [] bs

pub record Trees : Type 0 where
  pub found : (tree made).there 1 a ≡ Some (record { ino = 2; dtype = 8 })
  pub other_name : (tree made).there 1 b ≡ None
  pub other_directory : (tree made).there 2 a ≡ None
  pub filled_long : (tree filled).long 2 ≡ 5
  pub filled_bytes : five (tree filled) ≡ 0 ∷ 0 ∷ 7 ∷ 8 ∷ 9 ∷ []
  pub cut_long : (tree (resized 4 3 ∷ filled)).long 2 ≡ 3
  -- what was cut off does not come back, wherever the nodes stand
  pub regrown_bytes : five (tree regrown) ≡ 0 ∷ 0 ∷ 7 ∷ 0 ∷ 0 ∷ []
  pub regrown_elsewhere : five (tree (filled ++ (hole 5 5 3 2 ∷ resized 4 3 ∷ []))) ≡ 0 ∷ 0 ∷ 7 ∷ 0 ∷ 0 ∷ []
  pub gone_name : (tree gone).there 1 a ≡ None
  pub new_number : (tree again).there 1 a ≡ Some (record { ino = 3; dtype = 8 })
  -- two names of one number; one of them removed
  pub twice : map ((tree (file 1 2 2 b ∷ made)).there 1) (a ∷ b ∷ [])
      ≡ Some (record { ino = 2; dtype = 8 }) ∷ Some (record { ino = 2; dtype = 8 }) ∷ []
  pub once : map ((tree (removal 1 3 a ∷ file 1 2 2 b ∷ made)).there 1) (a ∷ b ∷ [])
      ≡ None ∷ Some (record { ino = 2; dtype = 8 }) ∷ []
  -- a directory inside itself
  pub inside : (tree (directory 2 1 2 a ∷ [])).there 2 a ≡ Some (record { ino = 2; dtype = 4 })

-- what lies behind a new length is dropped, and reads 0 once the file is longer again
pub record Applied : Type 0 where
  pub cut_long : (apply (resized 4 3) (tree filled)).long 2 ≡ 3
  pub cut : five (apply (resized 4 3) (tree filled)) ≡ 0 ∷ 0 ∷ 7 ∷ 0 ∷ 0 ∷ []
  pub regrown_long : (applied (tree filled) (resized 4 3 ∷ resized 5 5 ∷ [])).long 2 ≡ 5
  pub regrown : five (applied (tree filled) (resized 4 3 ∷ resized 5 5 ∷ [])) ≡ 0 ∷ 0 ∷ 7 ∷ 0 ∷ 0 ∷ []
  pub longer : five (applied (tree filled) (resized 4 2 ∷ bytes 5 5 3 (1 ∷ []) ∷ [])) ≡ 0 ∷ 0 ∷ 0 ∷ 1 ∷ 0 ∷ []
  pub over : five (apply (bytes 4 5 1 (1 ∷ 2 ∷ [])) (tree filled)) ≡ 0 ∷ 1 ∷ 2 ∷ 8 ∷ 9 ∷ []
  -- an entry changes its name and nothing else
  pub removed : map ((apply (removal 1 3 a) (tree (file 1 2 2 b ∷ filled))).there 1) (a ∷ b ∷ [])
      ≡ None ∷ Some (record { ino = 2; dtype = 8 }) ∷ []
  pub removed_bytes : five (apply (removal 1 2 a) (tree filled)) ≡ 0 ∷ 0 ∷ 7 ∷ 8 ∷ 9 ∷ []
  pub removed_long : (apply (removal 1 2 a) (tree filled)).long 2 ≡ 5

pub record Wanted : Type 0 where
  -- the data, the hole that gives bytes and the entry; the first content gives nothing
  pub of_filled : wants filled ≡ true ∷ true ∷ true ∷ false ∷ []
  -- overwritten whole
  pub of_overwritten : wants (bytes 4 5 0 (1 ∷ 2 ∷ 3 ∷ 4 ∷ 5 ∷ []) ∷ filled) ≡ true ∷ false ∷ false ∷ true ∷ false ∷ []
  -- cut off: the newest content says the length, and the bytes behind it are not needed
  pub of_cut : wants (resized 4 2 ∷ filled) ≡ true ∷ false ∷ true ∷ true ∷ false ∷ []
  -- the removal while its older entry stands, and nothing else
  pub of_gone : wants gone ≡ true ∷ false ∷ false ∷ false ∷ false ∷ []
  pub of_gone_for_good : wants (removal 1 2 a ∷ []) ≡ false ∷ []
  -- the newest entry replaces the removal
  pub of_again : wants again ≡ true ∷ false ∷ false ∷ false ∷ false ∷ false ∷ []
  -- a number with a name left
  pub of_once : wants (removal 1 3 a ∷ file 1 2 2 b ∷ made) ≡ true ∷ true ∷ false ∷ true ∷ []
  -- a content that waits for its entry is not needed yet
  pub of_waiting : wants (resized 1 0 ∷ []) ≡ false ∷ []
  pub of_inside : wants (directory 2 1 2 a ∷ []) ≡ true ∷ []

pub record Blocks : Type 0 where
  -- of one kind, number and version; another version, another number, another kind
  pub twins : map (twin (file 2 1 3 a)) (file 2 1 3 a ∷ file 2 2 3 a ∷ file 1 1 3 a ∷ resized 1 0 ∷ [])
      ≡ true ∷ false ∷ false ∷ false ∷ []
  -- of two blocks alike the lower is spent
  pub alike : spent (filled ∷ filled ∷ []) ≡ true ∷ false ∷ []
  pub apart : spent ((file 1 1 2 a ∷ []) ∷ (resized 1 0 ∷ []) ∷ []) ≡ false ∷ false ∷ []
  pub idle : spent ((resized 1 0 ∷ []) ∷ [] ∷ (hole 2 2 0 2 ∷ file 1 1 2 a ∷ []) ∷ []) ≡ true ∷ true ∷ false ∷ []
  -- of what three blocks hold by twos, one is spent
  pub by_twos : spent
      ((file 1 1 2 a ∷ file 1 2 2 b ∷ []) ∷ (file 1 2 2 b ∷ resized 1 0 ∷ []) ∷ (resized 1 0 ∷ file 1 1 2 a ∷ []) ∷ [])
      ≡ true ∷ false ∷ false ∷ []

-- what calls lay: create, write beyond the length, resize, unlink; and what none lays
pub record Calls : Type 0 where
  pub create : Layable [] (resized 1 0 ∷ file 1 1 2 a ∷ [])
  pub write : Layable made (hole 2 2 0 2 ∷ bytes 3 5 2 (7 ∷ 8 ∷ 9 ∷ []) ∷ [])
  pub shorten : Layable filled (resized 4 3 ∷ [])
  pub unlink : Layable filled (removal 1 2 a ∷ [])
  -- a byte left open; a name for what is not there; a version that stands
  pub no_gap : Layable made (bytes 2 5 2 (7 ∷ 8 ∷ 9 ∷ []) ∷ []) → ⊥
  pub no_orphan : Layable [] (file 1 1 2 a ∷ []) → ⊥
  pub no_twin : Layable made (removal 1 1 b ∷ []) → ⊥

pub record Examples : Type 0 where
  pub trees : Trees
  pub applied : Applied
  pub wanted : Wanted
  pub blocks : Blocks
  pub calls : Calls
