-- The fields of the two kinds of node. Assumes nothing.
--
-- Entry          a name in a directory (JFFS2's dirent), or its removal
-- Content        a length of a file, and a run of its bytes or a hole (JFFS2's inode node)
-- read_entry     the fields of an item that is an entry
-- read_content   the fields of an item that is a content
use Rattle.std.specs.Prelude.{ℕ, List, slice_index}
use Rattle.nodes.specs.Fields.{le32}
use Rattle.nodes.specs.Items.{Item, name, payload}

-- pino: the directory's number; ino: the number that it names, or 0; dtype: 8 a file, 4 a directory, 0 a removal
pub record Entry : Type 0 where
  pub pino : ℕ
  pub version : ℕ
  pub ino : ℕ
  pub dtype : ℕ
  pub name : List ℕ

unfoldable pub read_entry : Item → Entry
read_entry it = record { pino = le32 it 12; version = le32 it 16; ino = le32 it 20; dtype = slice_index it 29; name = name it }

-- isize: the file's length; dsize bytes at offset are given by the data, or are zeros where compr is 1, a hole
pub record Content : Type 0 where
  pub ino : ℕ
  pub version : ℕ
  pub mode : ℕ
  pub isize : ℕ
  pub offset : ℕ
  pub dsize : ℕ
  pub compr : ℕ
  pub payload : List ℕ

unfoldable pub read_content : Item → Content
read_content it =
    record {
      ino = le32 it 12;
      version = le32 it 16;
      mode = le32 it 20;
      isize = le32 it 28;
      offset = le32 it 44;
      dsize = le32 it 52;
      compr = slice_index it 56;
      payload = payload it;
    }
