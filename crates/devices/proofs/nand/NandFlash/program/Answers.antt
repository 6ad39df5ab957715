use Rattle.std.proofs.Common.{refl}
use Rattle.std.proofs.lemmas.Result.{err_from_is_err_and}
use Rattle.devices.proofs.NandCalls.{pages_there, program_refused, programmed_is}
use Rattle.devices.proofs.NandMeets.{program_meets}
use Rattle.devices.proofs.nand.NandFlash.program.Goals as goal

pub returns-in_err-from : goal.returns-in_err-from
returns-in_err-from c =
    let p = err_from_is_err_and c.from_residual.result c.from_residual.ensures.1 in
    let e = program_refused _ _ _ _ _ _ _ _ _ c.in_err-from.ensures.value in
    rw (p.1, p.2) (record { met = program_meets _ c.args.self.now.bank.some _ _ _ _ _ _ _ e; exact = e; same = refl })

pub flag_laid-requires-clause-pages : goal.flag_laid-requires-clause-pages
flag_laid-requires-clause-pages c =
    let w = c.in_ok-from.ensures in
    pages_there _ _ _ _ c.args.self.now.bank.some w.there.0 w.within.1

pub returns-in_err-done : goal.returns-in_err-done
returns-in_err-done c =
    let p = err_from_is_err_and c.from_residual-in_err-done.result c.from_residual-in_err-done.ensures.1 in
    let w = c.in_ok-from.ensures in
    let l = c.lay-done.ensures in
    let e = programmed_is _ _ _ _ _ _ _ _ _ w.value w.within.0 _ _ _ _ _ c.in_err-done.was l.value l.left l.memory c.flag_laid.ensures in
    rw (p.1, p.2, l.same) (record { met = program_meets _ c.args.self.now.bank.some _ _ _ _ _ _ _ e; exact = e; same = refl })

pub returns : goal.returns
returns c =
    let w = c.in_ok-from.ensures in
    let l = c.lay-done.ensures in
    let e = programmed_is _ _ _ _ _ _ _ _ _ w.value w.within.0 _ _ _ _ _ c.in_ok-done.was l.value l.left l.memory c.flag_laid.ensures in
    rw l.same (record { met = program_meets _ c.args.self.now.bank.some _ _ _ _ _ _ _ e; exact = e; same = refl })
