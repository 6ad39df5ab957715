use Rattle.nodes.specs.Shown.{entry_shown}
use Rattle.encode.proofs.Entries.{entry_length, entry_size}
use Rattle.encode.proofs.node.EntryNode532.held.Goals as goal

pub returns-clause-long : goal.returns-clause-long
returns-clause-long c = entry_length (entry_shown c.args.self.now)

pub returns-clause-sized : goal.returns-clause-sized
returns-clause-sized c = entry_size (entry_shown c.args.self.now)
