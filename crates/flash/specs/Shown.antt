-- What an operation of the code stands for. Assumes nothing.
use Rattle.std.specs.Prelude.{List, map}
use Rattle.flash.specs.declared.operation.Operation.{Operation}
use Rattle.flash.specs.declared.operation.Operation.TheVariants.{Program, Erase}
use Rattle.flash.specs.Ran.{Op, program, erase}

abbrev pub op_shown : Operation → Op
op_shown (Program at bytes) = program at.block at.offset bytes.now
op_shown (Erase block) = erase block

abbrev pub ops_shown : List Operation → List Op
ops_shown = map op_shown
