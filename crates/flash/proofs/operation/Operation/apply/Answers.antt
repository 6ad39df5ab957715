use Rattle.flash.proofs.operation.Operation.apply.Goals as goal

pub returns-in-Program : goal.returns-in-Program
returns-in-Program g c = rw c.in-Program.is c.program.ensures

pub returns-in-Erase : goal.returns-in-Erase
returns-in-Erase g c = rw c.in-Erase.is c.erase.ensures
