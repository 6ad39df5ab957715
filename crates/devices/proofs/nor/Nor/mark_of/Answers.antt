use Rattle.std.proofs.Common.{ap, ◌∙◌}
use Rattle.flash.specs.Extent.{used}
use Rattle.devices.specs.Memory.{part_of}
use Rattle.devices.specs.Nor.{SIZE}
use Rattle.devices.proofs.NorMarks.{mark_is}
use Rattle.devices.proofs.nor.Nor.mark_of.Goals as goal

pub returns : goal.returns
unfolding SIZE
returns c =
    mark_is (part_of SIZE c.args.self.now.bank.memory.now c.args.block) _ c.reach.result
    (c.reach.ensures.value ∙ ap used (c.block.ensures ∙ ap (λ n. part_of n c.args.self.now.bank.memory.now c.args.block) c.args.self.now.block))
    c.page_end.ensures
