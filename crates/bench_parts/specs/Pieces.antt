-- The nodes that the benches lay. Assumes nothing.
--
-- entry_of      the name of a number in a directory, in its first version
-- content_of    a run of bytes up to the end of a file or directory
use Rattle.std.specs.Prelude.{ℕ, ◌+◌, ◌-◌, ◌%◌, ◌^◌, List, length, min}
use Rattle.kinds.specs.declared.FileKind.{FileKind}
use Rattle.kinds.specs.Kinds.{dtype_of, mode_of}
use Rattle.nodes.specs.Records.{Entry, Content}

abbrev pub entry_of : ℕ → ℕ → FileKind → List ℕ → Entry
entry_of pino ino kind name = record { pino = pino; version = 1; ino = ino; dtype = dtype_of kind; name = name }

abbrev pub content_of : ℕ → ℕ → FileKind → ℕ → List ℕ → Content
content_of ino version kind offset payload = record {
  ino = ino;
  version = version;
  mode = mode_of kind;
  isize = min (offset + length payload % 512) (2 ^ 32 - 1);
  offset = offset;
  dsize = length payload % 512;
  compr = 0;
  payload = payload;
}
