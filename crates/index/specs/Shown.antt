-- What the records of an index stand for. Assumes nothing.
--
-- name_shown     the bytes of an inline name
-- IsNameOf       the name of some bytes, or none where these are more than 32
-- entry_shown    the entry that a record is kept of
-- span_shown     the content, without its data
use Rattle.std.specs.Prelude.{◌≡◌, ℕ, ◌<◌, List, take, length, Result, MatchResult}
use Rattle.nodes.specs.Records.{Entry}
use Rattle.tree.specs.Nodes.{Span}
use Rattle.index.specs.declared.name.Name.{Name}
use Rattle.index.specs.declared.name.NameTooLong.{NameTooLong}
use Rattle.index.specs.declared.record.EntryRecord.{EntryRecord}
use Rattle.index.specs.declared.record.ContentRecord.{ContentRecord}

abbrev pub name_shown : Name → List ℕ
name_shown n = take n.len n.bytes

abbrev pub IsNameOf : List ℕ → Result Name NameTooLong → Type 0
IsNameOf bytes r = MatchResult r (λ n. name_shown n ≡ bytes) (λ _. 32 < length bytes)

abbrev pub entry_shown : EntryRecord → Entry
entry_shown e = record { pino = e.pino; version = e.version; ino = e.ino; dtype = e.dtype; name = name_shown e.name }

abbrev pub span_shown : ContentRecord → Span
span_shown c = record { ino = c.ino; version = c.version; isize = c.isize; offset = c.offset; dsize = c.dsize }
