use Rattle.std.proofs.Common.{rules}
use Rattle.std.proofs.lemmas.Result.{err_from_is_err_and}
use Rattle.devices.specs.Nand.{nand}
use Rattle.devices.proofs.Chips.{not_place, mark_seen, mark_unseen}
use Rattle.devices.proofs.NandCalls.{placed_is, mark_here}
use Rattle.devices.proofs.nand.NandFlash.mark.Goals as goal

pub returns-in_err-locate : goal.returns-in_err-locate
unfolding nand
returns-in_err-locate c =
    let p = err_from_is_err_and c.from_residual.result c.from_residual.ensures.1 in
    rw (p.1, p.2) (mark_unseen _ _ _ _ _ _ _ _ _ _ _ (placed_is _ _ _ _ _ c.args.self.now.eight (search rules) _ _ _) c.in_err-locate.ensures.value)

pub returns : goal.returns
unfolding nand
returns c =
    let b = c.block.ensures in
    mark_seen _ _ _ _ _ _ _ _ _ (not_place _ _ _ _ _ _ _ _ _ _ _ (placed_is _ _ _ _ _ c.args.self.now.eight (search rules) _ _ _) _ _ c.in_ok-locate.ensures.value) (mark_here _ _ _ _ _ _ _ b.page b.lost b.bytes _ c.mark.ensures)
