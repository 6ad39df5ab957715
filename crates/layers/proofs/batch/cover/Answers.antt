use Rattle.layers.proofs.Cover.{covers_none, covers_some}
use Rattle.layers.proofs.batch.cover.Goals as goal

pub returns-then-n-gt0 : goal.returns-then-n-gt0
returns-then-n-gt0 c = λ xs a b e.
    covers_some xs c.args.offset c.args.start c.args.held.now c.args.out.now a b e _ _ _ c.saturating_sub-to.ensures c.saturating_sub-from.ensures c.shared-n.ensures c.if-n-gt0.true c.copy_from_slice.new.self c.copy_from_slice.ensures.after

pub returns-else-n-gt0 : goal.returns-else-n-gt0
returns-else-n-gt0 c = λ xs a b e.
    covers_none xs c.args.offset c.args.start c.args.held.now c.args.out.now a b e _ _ _ c.saturating_sub-to.ensures c.saturating_sub-from.ensures c.shared-n.ensures c.if-n-gt0.false
