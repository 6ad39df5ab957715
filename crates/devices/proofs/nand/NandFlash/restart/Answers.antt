use Rattle.devices.proofs.NandMeets.{restart_meets}
use Rattle.devices.proofs.nand.NandFlash.restart.Goals as goal

pub returns-clause-met : goal.returns-clause-met
returns-clause-met c = rw (c.power_up.ensures.same, c.power_up.ensures.steady.0, c.power_up.ensures.steady.1) (restart_meets _ _ _ _)
