use Rattle.std.proofs.Common.{refl}
use Rattle.std.proofs.lemmas.Result.{err_from_is_err_and}
use Rattle.devices.specs.Nor.{nor}
use Rattle.devices.proofs.Chips.{program_by, program_cut, program_below, program_may}
use Rattle.devices.proofs.NorCalls.{placed_is}
use Rattle.devices.proofs.nor.Nor.locate_blank.Goals as goal

pub returns-in_err-from-clause-value : goal.returns-in_err-from-clause-value
unfolding nor
returns-in_err-from-clause-value c =
    let p = err_from_is_err_and c.from_residual.result c.from_residual.ensures.1 in
    rw (p.1, p.2) (program_by _ _ _ _ _ _ _ _ _ _ _ (placed_is _ _ _ _ _ _ c.args.self.now.block) _ _ _ c.in_err-from.ensures.value)

pub returns-in_err-check_pages-clause-value : goal.returns-in_err-check_pages-clause-value
unfolding nor
returns-in_err-check_pages-clause-value c =
    let p = err_from_is_err_and c.from_residual-in_err-check_pages.result c.from_residual-in_err-check_pages.ensures.1 in
    rw (p.1, p.2) (program_cut _ _ _ _ _ _ _ _ _ _ _ (placed_is _ _ _ _ _ _ c.args.self.now.block) _ _ c.in_ok-from.ensures.value _ _ c.args.self.now.page refl _ _ c.in_err-check_pages.ensures)

pub returns-in_err-check_mark-clause-value : goal.returns-in_err-check_mark-clause-value
unfolding nor
returns-in_err-check_mark-clause-value c =
    let p = err_from_is_err_and c.from_residual-in_err-check_mark.result c.from_residual-in_err-check_mark.ensures.1 in
    rw (p.1, p.2) (program_below _ _ _ _ _ _ _ _ _ _ _ (placed_is _ _ _ _ _ _ c.args.self.now.block) _ _ c.in_ok-from.ensures.value _ _ c.args.self.now.page c.mark_of.ensures _ _ c.in_ok-check_pages.ensures c.in_err-check_mark.ensures)

pub returns-clause-value : goal.returns-clause-value
unfolding nor
returns-clause-value c =
    let w = c.in_ok-from.ensures in
    rw (w.within.0, c.args.self.now.block)
    (program_may _ _ _ _ _ _ _ _ _ _ _ (placed_is _ _ _ _ _ _ c.args.self.now.block) _ _ w.value _ _ c.args.self.now.page c.mark_of.ensures _ c.in_ok-check_pages.ensures c.in_ok-check_mark.ensures)
