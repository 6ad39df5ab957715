use Rattle.nodes.proofs.Reading.{tail_seen}
use Rattle.nodes.proofs.image.Image.tail.Goals as goal

pub returns : goal.returns
returns c = tail_seen c.args.self.readable.now c.args.self.bytes.now c.args.at
