use Rattle.std.proofs.Common.{◌≡◌, ◌≤◌, length}
use Rattle.flash.specs.Extent.{used}
use Rattle.flash.proofs.bytes.without_blank.Given as goal

-- so far nothing but 0xFF was left out
abbrev pub invariant-loop-shorter : goal.invariant-loop-shorter
invariant-loop-shorter l = (used l.front ≡ used l.bytes) × (length l.front ≤ length l.bytes)

abbrev pub decreases-loop-shorter : goal.decreases-loop-shorter
decreases-loop-shorter l = length l.front
