-- words_of   what a refusal says in words. Assumes nothing.
use Rattle.std.specs.Prelude.{ℕ, List, codes}
use Rattle.flash.specs.declared.refusal.Refusal.{Refusal}
use Rattle.flash.specs.declared.refusal.Refusal.TheVariants.{Path, TooLong, Shape, Memory, Buffer, Kind, Field, Conflict, Outside, NotPages, BelowMark, OtherHeld, NoPower, Absent, Exists, WrongKind, NotEmpty, NoSpace, Exhausted, NoFull, Unreadable}

abbrev pub words_of : Refusal → List ℕ
words_of Path = codes "not a path"
words_of TooLong = codes "too long"
words_of Shape = codes "wrong shape"
words_of Memory = codes "not 4 to 16 whole blocks of memory"
words_of Buffer = codes "buffer too small"
words_of Kind = codes "unknown kind"
words_of Field = codes "bad field"
words_of Conflict = codes "two nodes of one version differ"
words_of Outside = codes "outside the flash"
words_of NotPages = codes "not whole pages"
words_of BelowMark = codes "below the mark"
words_of OtherHeld = codes "another block has bytes held"
words_of NoPower = codes "no power"
words_of Absent = codes "absent"
words_of Exists = codes "exists"
words_of WrongKind = codes "wrong kind"
words_of NotEmpty = codes "not empty"
words_of NoSpace = codes "no space"
words_of Exhausted = codes "numbers exhausted"
words_of NoFull = codes "no full block"
words_of Unreadable = codes "unreadable"
