use Rattle.std.proofs.Common.{rules}
use Rattle.std.proofs.lemmas.Result.{err_from_is_err_and}
use Rattle.devices.specs.Nand.{nand}
use Rattle.devices.proofs.Chips.{read_by, read_not, read_may}
use Rattle.devices.proofs.NandCalls.{placed_is, lost_here}
use Rattle.devices.proofs.nand.Nand.locate_read.Goals as goal

pub returns-in_err-from-clause-value : goal.returns-in_err-from-clause-value
unfolding nand
returns-in_err-from-clause-value c =
    let p = err_from_is_err_and c.from_residual.result c.from_residual.ensures.1 in
    rw (p.1, p.2) (read_by _ _ _ _ _ _ _ _ _ _ _ (placed_is _ _ _ _ _ c.args.self.now.eight (search rules) _ _ _) _ _ _ c.in_err-from.ensures.value)

pub returns-then-is_lost-clause-value : goal.returns-then-is_lost-clause-value
unfolding nand
returns-then-is_lost-clause-value c =
    let b = c.block.ensures in
    read_not _ _ _ _ _ _ _ _ _ _ _ (placed_is _ _ _ _ _ c.args.self.now.eight (search rules) _ _ _) _ _ c.in_ok-from.ensures.value _ (lost_here _ _ _ _ _ _ _ b.page b.lost b.bytes _ _ _ c.if-is_lost.ensures)

pub returns-clause-value : goal.returns-clause-value
unfolding nand
returns-clause-value c =
    let w = c.in_ok-from.ensures in
    let b = c.block.ensures in
    rw (w.within.0, c.args.self.now.eight)
    (read_may _ _ _ _ _ _ _ _ _ _ _ (placed_is _ _ _ _ _ c.args.self.now.eight (search rules) _ _ _) _ _ w.value _ (lost_here _ _ _ _ _ _ _ b.page b.lost b.bytes _ _ _ c.if-is_lost.ensures))
