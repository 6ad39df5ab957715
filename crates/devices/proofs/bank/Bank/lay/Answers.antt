use Rattle.std.proofs.Common.{refl}
use Rattle.devices.proofs.Cuts.{laid_cut}
use Rattle.devices.proofs.bank.Bank.lay.Goals as goal

pub returns-in-Err-clause-memory : goal.returns-in-Err-clause-memory
returns-in-Err-clause-memory c =
    laid_cut c.args.self.now.sizes.page c.args.self.now.supply c.in-Err.cut c.args.self.now.memory.now c.args.from c.args.bytes.now c.tear.new.part c.copy_from_slice-in-Err.new.self _
    c.in-Err.ensures.value refl c.copy_from_slice-in-Err.ensures.after c.tear.ensures
