use Rattle.std.proofs.Common.{◌≡◌, ◌-◌, drop}
use Rattle.nodes.specs.Image.{seen_in}
use Rattle.nodes.specs.Walk.{alike}
use Rattle.losses.proofs.compare.are_same.Given as goal

-- the bytes still to be compared decide
abbrev pub invariant-loop-i : goal.invariant-loop-i
invariant-loop-i l =
    alike (l.end - l.i) (drop l.i (seen_in l.want)) (drop l.i (seen_in l.got))
    ≡ alike l.n (drop l.at (seen_in l.want)) (drop l.at (seen_in l.got))

abbrev pub decreases-loop-i : goal.decreases-loop-i
decreases-loop-i l = l.end - l.i
