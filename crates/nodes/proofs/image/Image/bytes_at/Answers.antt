use Rattle.std.proofs.Common.{arith}
use Rattle.std.proofs.lemmas.List.{drop_all}
use Rattle.flash.specs.Cells.{front}
use Rattle.nodes.specs.Image.{seen_in}
use Rattle.nodes.proofs.Cuts.{length_seen}
use Rattle.nodes.proofs.image.Image.bytes_at.Goals as goal

pub returns-then-at-self : goal.returns-then-at-self
unfolding front
returns-then-at-self c =
    let image = c.args.self in
    let long = length_seen image.readable.now 0 image.bytes.now in
    rw (drop_all c.args.at (seen_in image) (omega (arith, long, c.if-at-self.true))) (omega (arith, c.if-n-eq0.false))
