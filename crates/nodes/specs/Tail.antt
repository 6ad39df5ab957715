-- What is left of a block from a place on. Assumes nothing.
--
-- seen_behind   its cells
use Rattle.std.specs.Prelude.{List}
use Rattle.flash.specs.Cells.{Cell}
use Rattle.nodes.specs.declared.tail.Tail.{Tail}
use Rattle.nodes.specs.Seen.{seen_from}

abbrev pub seen_behind : Tail → List Cell
seen_behind t = seen_from t.readable.now t.at t.bytes.now
