use Rattle.std.proofs.lemmas.Result.{err_from_is_err_and}
use Rattle.layers.specs.Sanity.{sound_of}
use Rattle.layers.proofs.Look.{looks_err, looks_none, looks_here}
use Rattle.layers.proofs.calls.WriteBufferFlash.read.Goals as goal

pub returns-in_err-read : goal.returns-in_err-read
returns-in_err-read g c =
    let x = err_from_is_err_and c.from_residual.result c.from_residual.ensures.1 in
    rw (x.1, x.2) (looks_err (sound_of g.met.F.Flash.sane c.args.self.now) _ _ _ _ _ c.in_err-read.ensures)

pub returns-in_default : goal.returns-in_default
returns-in_default g c = looks_none (sound_of g.met.F.Flash.sane c.args.self.now) _ _ _ c.in_default.ensures _ c.in_ok-read.ensures

pub returns-in-Some : goal.returns-in-Some
returns-in-Some g c = looks_here (sound_of g.met.F.Flash.sane c.args.self.now) _ _ _ _ c.in-Some.ensures _ _ c.in_ok-read.ensures c.cover.ensures
