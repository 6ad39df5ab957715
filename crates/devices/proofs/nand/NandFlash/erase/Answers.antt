use Rattle.std.proofs.Common.{refl, rules}
use Rattle.std.proofs.lemmas.Result.{err_from_is_err_and}
use Rattle.devices.proofs.NandCalls.{erase_refused, erased_is}
use Rattle.devices.proofs.NandMeets.{erase_meets}
use Rattle.devices.proofs.nand.NandFlash.erase.Goals as goal

pub returns-in_err-locate : goal.returns-in_err-locate
returns-in_err-locate c =
    let p = err_from_is_err_and c.from_residual.result c.from_residual.ensures.1 in
    let e = erase_refused _ _ _ _ _ c.args.self.now.eight (search rules) _ _ _ c.in_err-locate.ensures.value in
    rw (p.1, p.2) (record { met = erase_meets _ _ _ _ _ _ e; exact = e; same = refl })

pub returns-in_err-done : goal.returns-in_err-done
returns-in_err-done c =
    let p = err_from_is_err_and c.from_residual-in_err-done.result c.from_residual-in_err-done.ensures.1 in
    let l = c.clear-done.ensures in
    let e = erased_is _ _ _ _ _ c.args.self.now.eight (search rules) _ _ _ c.in_ok-locate.ensures.value _ _ _ _ _ c.in_err-done.was l.value l.left l.memory c.flag_wiped.ensures in
    rw (p.1, p.2, l.same) (record { met = erase_meets _ _ _ _ _ _ e; exact = e; same = refl })

pub returns : goal.returns
returns c =
    let l = c.clear-done.ensures in
    let e = erased_is _ _ _ _ _ c.args.self.now.eight (search rules) _ _ _ c.in_ok-locate.ensures.value _ _ _ _ _ c.in_ok-done.was l.value l.left l.memory c.flag_wiped.ensures in
    rw l.same (record { met = erase_meets _ _ _ _ _ _ e; exact = e; same = refl })
