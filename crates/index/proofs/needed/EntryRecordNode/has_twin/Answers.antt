use Rattle.std.proofs.Common.{sym, ◌∙◌}
use Rattle.index.specs.Missed.{elsewhere}
use Rattle.index.proofs.Twins.{entry_twins}
use Rattle.index.proofs.needed.EntryRecordNode.has_twin.Goals as goal

pub returns : goal.returns
returns c = c.stands_elsewhere.ensures ∙ sym (entry_twins c.args.self.now (elsewhere c.args.home c.args.blocks.now))
