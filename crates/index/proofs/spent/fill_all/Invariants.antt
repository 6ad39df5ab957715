use Rattle.std.proofs.Common.{◌≡◌, ◌++◌, map, take, drop}
use Rattle.index.specs.declared.block.State.TheVariants.{Full}
use Rattle.index.specs.Missed.{with_state}
use Rattle.index.proofs.spent.fill_all.Given as goal

abbrev pub invariant-loop-block : goal.invariant-loop-block
invariant-loop-block l = l.blocks ≡ map (with_state Full) (take l.block-index l.initial.blocks) ++ drop l.block-index l.initial.blocks
