use Rattle.std.proofs.lemmas.Result.{err_from_is_err_and}
use Rattle.devices.proofs.NorCalls.{program_refused, programmed_is}
use Rattle.devices.proofs.NorMeets.{program_meets}
use Rattle.devices.proofs.nor.NorFlash.program.Goals as goal

pub returns-in_err-from : goal.returns-in_err-from
returns-in_err-from c =
    let p = err_from_is_err_and c.from_residual.result c.from_residual.ensures.1 in
    let e = program_refused _ _ _ _ _ _ _ c.in_err-from.ensures.value in
    rw (p.1, p.2) (record { met = program_meets _ _ _ _ _ _ e; exact = e })

pub returns-in_err-lay : goal.returns-in_err-lay
returns-in_err-lay c =
    let p = err_from_is_err_and c.from_residual-in_err-lay.result c.from_residual-in_err-lay.ensures.1 in
    let w = c.in_ok-from.ensures in
    let l = c.in_err-lay.ensures in
    let e = programmed_is _ _ _ _ _ _ _ _ w.value w.within.0 c.args.self.now.page _ _ _ l.value l.left l.memory in
    rw (p.1, p.2) (record { met = program_meets _ _ _ _ _ _ e; exact = e })

pub returns : goal.returns
returns c =
    let w = c.in_ok-from.ensures in
    let l = c.in_ok-lay.ensures in
    let e = programmed_is _ _ _ _ _ _ _ _ w.value w.within.0 c.args.self.now.page _ _ _ l.value l.left l.memory in
    record { met = program_meets _ _ _ _ _ _ e; exact = e }
