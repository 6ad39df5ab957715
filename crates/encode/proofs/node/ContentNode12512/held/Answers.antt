use Rattle.nodes.specs.Shown.{content_shown}
use Rattle.encode.proofs.Contents.{content_length, content_size}
use Rattle.encode.proofs.node.ContentNode12512.held.Goals as goal

pub returns-clause-long : goal.returns-clause-long
returns-clause-long c = content_length (content_shown c.args.self.now)

pub returns-clause-sized : goal.returns-clause-sized
returns-clause-sized c = content_size (content_shown c.args.self.now)
