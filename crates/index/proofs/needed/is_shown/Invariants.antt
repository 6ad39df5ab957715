use Rattle.std.proofs.Common.{◌≡◌, ℕ, ◌-◌, ◌<◌, ◌≤◌, false}
use Rattle.tree.specs.Lookups.{shows}
use Rattle.index.specs.Blocks.{all_contents}
use Rattle.index.specs.Shown.{span_shown}
use Rattle.index.proofs.needed.is_shown.Given as goal

-- so far no byte of the content was found that newer ones do not give
abbrev pub invariant-loop-at : goal.invariant-loop-at
invariant-loop-at l = (l.content.offset ≤ l.at) × ((j : ℕ) → l.content.offset ≤ j → j < l.at → shows span_shown (all_contents l.blocks) (span_shown l.content) j ≡ false)

abbrev pub decreases-loop-at : goal.decreases-loop-at
decreases-loop-at l = l.end - l.at
