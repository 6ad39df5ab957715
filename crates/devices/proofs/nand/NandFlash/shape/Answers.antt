use Rattle.std.proofs.Common.{◌∙◌, rules}
use Rattle.devices.specs.Bank.{chip}
use Rattle.devices.specs.Nand.{nand}
use Rattle.devices.proofs.NandCalls.{blocks_are}
use Rattle.devices.proofs.nand.NandFlash.shape.Goals as goal

pub returns : goal.returns
unfolding nand chip
returns c =
    let self = c.args.self.now in
    let s = c.shape.ensures in
    (s.blocks ∙ blocks_are _ _ _ _ self.eight (search rules), s.size ∙ self.eight, s.pages.0, s.pages.1)
