-- What the records of the code stand for: the same fields, with the bytes that they borrow. Assumes nothing.
use Rattle.nodes.specs.declared.record.Entry as code_entry
use Rattle.nodes.specs.declared.record.Content as code_content
use Rattle.nodes.specs.Records.{Entry, Content}

abbrev pub entry_shown : code_entry.Entry → Entry
entry_shown e = record { pino = e.pino; version = e.version; ino = e.ino; dtype = e.dtype; name = e.name.now }

abbrev pub content_shown : code_content.Content → Content
content_shown c = record {
  ino = c.ino;
  version = c.version;
  mode = c.mode;
  isize = c.isize;
  offset = c.offset;
  dsize = c.dsize;
  compr = c.compr;
  payload = c.payload.now;
}
