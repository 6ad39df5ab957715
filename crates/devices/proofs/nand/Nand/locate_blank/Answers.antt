use Rattle.std.proofs.Common.{refl, rules}
use Rattle.std.proofs.lemmas.Result.{err_from_is_err_and}
use Rattle.devices.specs.Nand.{nand}
use Rattle.devices.proofs.Chips.{program_by, program_cut, program_below, program_may}
use Rattle.devices.proofs.NandCalls.{placed_is, mark_here}
use Rattle.devices.proofs.nand.Nand.locate_blank.Goals as goal

pub returns-in_err-from-clause-value : goal.returns-in_err-from-clause-value
unfolding nand
returns-in_err-from-clause-value c =
    let p = err_from_is_err_and c.from_residual.result c.from_residual.ensures.1 in
    rw (p.1, p.2) (program_by _ _ _ _ _ _ _ _ _ _ _ (placed_is _ _ _ _ _ c.args.self.now.eight (search rules) _ _ _) _ _ _ c.in_err-from.ensures.value)

pub returns-in_err-check_pages-clause-value : goal.returns-in_err-check_pages-clause-value
unfolding nand
returns-in_err-check_pages-clause-value c =
    let p = err_from_is_err_and c.from_residual-in_err-check_pages.result c.from_residual-in_err-check_pages.ensures.1 in
    rw (p.1, p.2) (program_cut _ _ _ _ _ _ _ _ _ _ _ (placed_is _ _ _ _ _ c.args.self.now.eight (search rules) _ _ _) _ _ c.in_ok-from.ensures.value _ _ refl refl _ _ c.in_err-check_pages.ensures)

pub returns-in_err-check_mark-clause-value : goal.returns-in_err-check_mark-clause-value
unfolding nand
returns-in_err-check_mark-clause-value c =
    let p = err_from_is_err_and c.from_residual-in_err-check_mark.result c.from_residual-in_err-check_mark.ensures.1 in
    let b = c.block.ensures in
    rw (p.1, p.2) (program_below _ _ _ _ _ _ _ _ _ _ _ (placed_is _ _ _ _ _ c.args.self.now.eight (search rules) _ _ _) _ _ c.in_ok-from.ensures.value _ _ refl (mark_here _ _ _ _ _ _ _ b.page b.lost b.bytes _ c.mark.ensures) _ _ c.in_ok-check_pages.ensures c.in_err-check_mark.ensures)

pub returns-clause-value : goal.returns-clause-value
unfolding nand
returns-clause-value c =
    let w = c.in_ok-from.ensures in
    let b = c.block.ensures in
    rw (w.within.0, c.args.self.now.eight)
    (program_may _ _ _ _ _ _ _ _ _ _ _ (placed_is _ _ _ _ _ c.args.self.now.eight (search rules) _ _ _) _ _ w.value _ _ refl (mark_here _ _ _ _ _ _ _ b.page b.lost b.bytes _ c.mark.ensures) _ c.in_ok-check_pages.ensures c.in_ok-check_mark.ensures)
