-- Nodes that pass, for the programs to lay and to change. Assumes nothing.
--
-- entry_of      a name in the root, in version 3
-- content_of    of number 2, in version 4: a part of 1,000 bytes, from 100 on
use Rattle.std.specs.Prelude.{ℕ, List}
use Rattle.nodes.specs.Records.{Entry, Content}

abbrev pub entry_of : ℕ → ℕ → List ℕ → Entry
entry_of ino dtype name = record { pino = 1; version = 3; ino = ino; dtype = dtype; name = name }

abbrev pub content_of : ℕ → ℕ → List ℕ → Content
content_of dsize compr payload = record {
  ino = 2;
  version = 4;
  mode = 33188;
  isize = 1000;
  offset = 100;
  dsize = dsize;
  compr = compr;
  payload = payload;
}
