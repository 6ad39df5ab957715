use Rattle.std.proofs.lemmas.Result.{err_from_is_err_and}
use Rattle.devices.proofs.NorCalls.{fetch_refused, fetch_done}
use Rattle.devices.proofs.nor.NorFlash.read.Goals as goal

pub returns-in_err-from : goal.returns-in_err-from
returns-in_err-from c =
    let p = err_from_is_err_and c.from_residual.result c.from_residual.ensures.1 in
    rw (p.1, p.2) (fetch_refused _ _ _ _ _ _ _ c.args.self.now.block _ c.in_err-from.ensures.value)

pub returns : goal.returns
returns c =
    let w = c.in_ok-from.ensures in
    fetch_done _ _ _ _ _ _ _ c.args.self.now.block _ c.fetch.new.out w.value w.within c.fetch.ensures
