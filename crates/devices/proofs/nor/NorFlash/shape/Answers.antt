use Rattle.std.proofs.Common.{length, ap, ◌∙◌}
use Rattle.devices.specs.Bank.{blocks_in, chip}
use Rattle.devices.specs.Nor.{SIZE, nor}
use Rattle.devices.proofs.nor.NorFlash.shape.Goals as goal

pub returns : goal.returns
unfolding nor chip SIZE
returns c =
    let self = c.args.self.now in
    let s = c.shape.ensures in
    (s.blocks ∙ ap (λ n. blocks_in n (length self.bank.memory.now)) self.block, s.size ∙ self.block, s.pages.0 ∙ self.page, s.pages.1 ∙ self.page)
