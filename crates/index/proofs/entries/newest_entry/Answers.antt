use Rattle.std.proofs.Common.{rules}
use Rattle.index.proofs.entries.newest_entry.Goals as goal

pub returns : goal.returns
returns c = c.newest.ensures _ (λ r b q k. search rules)
