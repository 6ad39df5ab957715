use Rattle.std.proofs.Common.{rules}
use Rattle.tree.specs.Nodes.{of_file}
use Rattle.index.proofs.contents.newest_content.Goals as goal

pub returns : goal.returns
unfolding of_file
returns c = c.newest.ensures _ (λ r b q k. search rules)
