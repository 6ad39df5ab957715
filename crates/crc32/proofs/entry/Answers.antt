use Rattle.crc32.proofs.Table.{at_entry}
use Rattle.crc32.proofs.entry.Goals as goal

pub returns : goal.returns
returns c = at_entry c.args.table.now c.requires.0 c.args.k c.requires.1
