-- The records of blocks. Assumes nothing.
--
-- entries_in, contents_in     of one block
-- all_entries, all_contents   of all, one block after the other
use Rattle.std.specs.Prelude.{List, vec_items}
use Rattle.std.specs.List.{flat_map}
use Rattle.index.specs.declared.block.Block.{Block}
use Rattle.index.specs.declared.record.EntryRecord.{EntryRecord}
use Rattle.index.specs.declared.record.ContentRecord.{ContentRecord}

abbrev pub entries_in : Block → List EntryRecord
entries_in b = vec_items b.entries

abbrev pub contents_in : Block → List ContentRecord
contents_in b = vec_items b.contents

abbrev pub all_entries : List Block → List EntryRecord
all_entries bs = flat_map entries_in bs

abbrev pub all_contents : List Block → List ContentRecord
all_contents bs = flat_map contents_in bs
