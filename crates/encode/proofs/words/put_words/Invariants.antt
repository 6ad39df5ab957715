use Rattle.std.proofs.Common.{◌≡◌, take}
use Rattle.flash.specs.Cells.{over}
use Rattle.encode.specs.Encode.{spread}
use Rattle.encode.proofs.words.put_words.Given as goal

abbrev pub invariant-loop-i : goal.invariant-loop-i
invariant-loop-i l = l.out ≡ over l.initial.out l.at (spread (take l.i l.words))
