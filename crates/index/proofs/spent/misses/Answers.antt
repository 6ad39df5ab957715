use Rattle.std.proofs.Common.{rules}
use Rattle.index.proofs.Twins.{misses_at}
use Rattle.index.proofs.spent.misses.Goals as goal

pub returns : goal.returns
returns c = misses_at c.args.blocks.now c.args.home c.get.result _ (search rules) (search rules)
