-- The values that stand for kinds on the flash. Assumes nothing.
--
-- kind_value   of an item's kind, in its header
-- kind_with    the kind that has a value
-- IsKindOf     the answer is the kind that has this value, or the value, where none has it
-- dtype_of     of a file and of a directory, the type in their entries
-- mode_of      and the mode in their contents
use Rattle.std.specs.Prelude.{◌≡◌, ℕ, cond, Some, None, Option, Result, MatchResult, ◌==◌}
use Rattle.kinds.specs.declared.Kind.{Kind}
use Rattle.kinds.specs.declared.Kind.TheVariants.{Marker, Padding, Entry, Content}
use Rattle.kinds.specs.declared.UnknownKind.{UnknownKind}
use Rattle.kinds.specs.declared.FileKind.{FileKind}
use Rattle.kinds.specs.declared.FileKind.TheVariants.{File, Directory}

abbrev pub kind_value : Kind → ℕ
kind_value Marker = 0x2003
kind_value Padding = 0x2004
kind_value Entry = 0xE001
kind_value Content = 0xE002

abbrev pub kind_with : ℕ → Option Kind
kind_with v =
    cond (v == 0x2003) (Some Marker)
    (cond (v == 0x2004) (Some Padding)
    (cond (v == 0xE001) (Some Entry)
    (cond (v == 0xE002) (Some Content) None)))

abbrev pub IsKindOf : ℕ → Result Kind UnknownKind → Type 0
IsKindOf v r = MatchResult r (λ kind. kind_with v ≡ Some kind) (λ e. (kind_with v ≡ None) × (e.0 ≡ v))

abbrev pub dtype_of : FileKind → ℕ
dtype_of File = 8
dtype_of Directory = 4

abbrev pub mode_of : FileKind → ℕ
mode_of File = 33188
mode_of Directory = 16877
