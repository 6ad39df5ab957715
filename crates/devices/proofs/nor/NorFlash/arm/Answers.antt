use Rattle.devices.proofs.NorMeets.{arm_meets}
use Rattle.devices.proofs.nor.NorFlash.arm.Goals as goal

pub returns-clause-met : goal.returns-clause-met
returns-clause-met c = arm_meets _ _ _ _ _ c.arm.ensures.value
