use Rattle.std.proofs.Common.{take, Ok}
use Rattle.flash.specs.Ran.{Ran}
use Rattle.flash.specs.Shown.{ops_shown}
use Rattle.flash.proofs.run.run.Given as goal

abbrev pub invariant-loop-operation : goal.invariant-loop-operation
invariant-loop-operation g l =
    Ran (ops_shown (take l.operation-index l.operations)) (g.F.Flash.meaning l.initial.flash) (Ok tt) (g.F.Flash.meaning l.flash)
