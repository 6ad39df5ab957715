use Rattle.std.proofs.Common.{arith}
use Rattle.nodes.specs.Shown.{content_shown}
use Rattle.encode.specs.Encode.{ContentFits}
use Rattle.encode.proofs.Contents.{content_made, content_trip}
use Rattle.encode.proofs.node.ContentNode12512.words.Goals as goal

pub returns-clause-made : goal.returns-clause-made
returns-clause-made c = λ h.
    let x = content_shown c.args.self.now in
    let fits : ContentFits x = record { ino = omega arith; version = omega arith; mode = omega arith; isize = omega arith; offset = omega arith; dsize = omega arith; compr = omega arith; short = h } in
    (content_made x fits, content_trip x fits)
