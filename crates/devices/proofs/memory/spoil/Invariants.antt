use Rattle.std.proofs.Common.{◌≡◌, ◌++◌, take, drop}
use Rattle.devices.specs.Memory.{ored}
use Rattle.devices.proofs.memory.spoil.Given as goal

abbrev pub invariant-loop-x : goal.invariant-loop-x
invariant-loop-x l = l.part ≡ ored l.fault (take l.x-index l.initial.part) ++ drop l.x-index l.initial.part
