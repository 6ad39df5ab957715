use Rattle.std.proofs.lemmas.Result.{err_from_is_err_and}
use Rattle.devices.proofs.NorCalls.{erase_refused, erased_is}
use Rattle.devices.proofs.NorMeets.{erase_meets}
use Rattle.devices.proofs.nor.NorFlash.erase.Goals as goal

pub returns-in_err-locate : goal.returns-in_err-locate
returns-in_err-locate c =
    let p = err_from_is_err_and c.from_residual.result c.from_residual.ensures.1 in
    let e = erase_refused _ _ _ _ _ c.args.self.now.block _ c.in_err-locate.ensures.value in
    rw (p.1, p.2) (record { met = erase_meets _ _ _ _ e; exact = e })

pub returns-in_err-clear : goal.returns-in_err-clear
returns-in_err-clear c =
    let p = err_from_is_err_and c.from_residual-in_err-clear.result c.from_residual-in_err-clear.ensures.1 in
    let l = c.in_err-clear.ensures in
    let e = erased_is _ _ _ _ _ c.args.self.now.block _ c.in_ok-locate.ensures.value _ _ _ l.value l.left l.memory in
    rw (p.1, p.2) (record { met = erase_meets _ _ _ _ e; exact = e })

pub returns : goal.returns
returns c =
    let l = c.in_ok-clear.ensures in
    let e = erased_is _ _ _ _ _ c.args.self.now.block _ c.in_ok-locate.ensures.value _ _ _ l.value l.left l.memory in
    record { met = erase_meets _ _ _ _ e; exact = e }
