-- A block as it was read. Assumes nothing.
--
-- seen_in   its cells
use Rattle.std.specs.Prelude.{List}
use Rattle.flash.specs.Cells.{Cell}
use Rattle.nodes.specs.declared.image.Image.{Image}
use Rattle.nodes.specs.Seen.{seen}

abbrev pub seen_in : Image → List Cell
seen_in i = seen i.readable.now i.bytes.now
