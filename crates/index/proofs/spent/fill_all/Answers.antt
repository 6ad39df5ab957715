use Rattle.std.proofs.Common.{get_or, ap, arith}
use Rattle.std.proofs.lemmas.List.Edits.{map_over_more}
use Rattle.index.specs.declared.block.State.TheVariants.{Full}
use Rattle.index.specs.Missed.{with_state}
use Rattle.index.proofs.spent.fill_all.Goals as goal

pub loop-block-preserved : goal.loop-block-preserved
loop-block-preserved c =
    map_over_more (with_state Full) c.args.blocks.now c.loop-block.blocks c.loop-block.block-index _ (omega arith) c.loop-block.invariant (ap (get_or c.loop-block.blocks c.loop-block.block-index) c.block-item.is)
