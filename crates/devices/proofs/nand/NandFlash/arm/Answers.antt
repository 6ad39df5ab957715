use Rattle.devices.proofs.NandMeets.{arm_meets}
use Rattle.devices.proofs.nand.NandFlash.arm.Goals as goal

pub returns-clause-met : goal.returns-clause-met
returns-clause-met c = rw c.arm.ensures.same (arm_meets _ _ _ _ _ _ _ _ _ c.arm.ensures.value)
