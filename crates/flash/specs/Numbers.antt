-- number_of   the number by which a refusal is known. Assumes nothing.
use Rattle.std.specs.Prelude.{ℕ}
use Rattle.flash.specs.declared.refusal.Refusal.{Refusal}
use Rattle.flash.specs.declared.refusal.Refusal.TheVariants.{Path, TooLong, Shape, Memory, Buffer, Kind, Field, Conflict, Outside, NotPages, BelowMark, OtherHeld, NoPower, Absent, Exists, WrongKind, NotEmpty, NoSpace, Exhausted, NoFull, Unreadable}

abbrev pub number_of : Refusal → ℕ
number_of Path = 1
number_of TooLong = 2
number_of Shape = 3
number_of Memory = 4
number_of Buffer = 5
number_of Kind = 6
number_of Field = 7
number_of Conflict = 8
number_of Outside = 11
number_of NotPages = 12
number_of BelowMark = 13
number_of OtherHeld = 14
number_of NoPower = 20
number_of Absent = 21
number_of Exists = 22
number_of WrongKind = 23
number_of NotEmpty = 24
number_of NoSpace = 25
number_of Exhausted = 26
number_of NoFull = 27
number_of Unreadable = 28
