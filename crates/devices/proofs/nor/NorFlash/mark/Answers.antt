use Rattle.std.proofs.lemmas.Result.{err_from_is_err_and}
use Rattle.devices.specs.Nor.{nor}
use Rattle.devices.proofs.Chips.{not_place, mark_seen, mark_unseen}
use Rattle.devices.proofs.NorCalls.{placed_is}
use Rattle.devices.proofs.nor.NorFlash.mark.Goals as goal

pub returns-in_err-locate : goal.returns-in_err-locate
unfolding nor
returns-in_err-locate c =
    let p = err_from_is_err_and c.from_residual.result c.from_residual.ensures.1 in
    rw (p.1, p.2) (mark_unseen _ _ _ _ _ _ _ _ _ _ _ (placed_is _ _ _ _ _ _ c.args.self.now.block) c.in_err-locate.ensures.value)

pub returns : goal.returns
unfolding nor
returns c =
    mark_seen _ _ _ _ _ _ _ _ _ (not_place _ _ _ _ _ _ _ _ _ _ _ (placed_is _ _ _ _ _ _ c.args.self.now.block) _ _ c.in_ok-locate.ensures.value) c.mark_of.ensures
