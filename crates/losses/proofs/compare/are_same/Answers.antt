use Rattle.std.proofs.Common.{◌≡◌, ◌+◌, arith}
use Rattle.nodes.specs.Image.{seen_in}
use Rattle.losses.proofs.Comparing.{same_part, same_all}
use Rattle.losses.proofs.compare.are_same.Goals as goal

pub loop-i-preserved : goal.loop-i-preserved
loop-i-preserved c =
    let whole : c.min.result ≡ 64 = omega arith in
    same_part (seen_in c.args.want) (seen_in c.args.got) (c.args.at + c.args.n) c.loop-i.i 64 (omega arith)
    (rw whole at c.if-not-part_is_same.ensures) c.loop-i.invariant

pub returns-then-not-part_is_same : goal.returns-then-not-part_is_same
returns-then-not-part_is_same c =
    same_part (seen_in c.args.want) (seen_in c.args.got) (c.args.at + c.args.n) c.loop-i.i c.min.result (omega arith)
    c.if-not-part_is_same.ensures c.loop-i.invariant

pub returns : goal.returns
returns c = same_all (seen_in c.args.want) (seen_in c.args.got) (c.args.at + c.args.n) c.loop-i.i (omega arith) c.loop-i.invariant
