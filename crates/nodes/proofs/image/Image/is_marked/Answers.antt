use Rattle.nodes.specs.Image.{seen_in}
use Rattle.nodes.proofs.Marks.{marked_read}
use Rattle.nodes.proofs.image.Image.is_marked.Goals as goal

pub returns : goal.returns
returns c = marked_read (seen_in c.args.self) c.bytes_at.result c.is_some_and.result c.bytes_at.ensures c.is_some_and.ensures
