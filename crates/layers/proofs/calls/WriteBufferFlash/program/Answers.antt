use Rattle.std.proofs.Common.{refl}
use Rattle.std.proofs.lemmas.Result.{err_from_is_err_and}
use Rattle.flash.specs.Rules.{Programmed}
use Rattle.layers.specs.Sanity.{sound_of}
use Rattle.layers.proofs.Buffers.{not_emptied, emptied_accepts, emptied_then}
use Rattle.layers.proofs.Told.{tells_here}
use Rattle.layers.proofs.calls.WriteBufferFlash.program.Goals as goal
use Rattle.layers.proofs.calls.WriteBufferFlash.program.Goals.{in-Some+in_ok-pass_down, in_default}

pub returns-in_err-start : goal.returns-in_err-start
returns-in_err-start g c =
    let x = err_from_is_err_and c.from_residual.result c.from_residual.ensures.1 in
    rw (x.1, x.2) (Programmed.refused _ c.in_err-start.ensures.refused refl refl)

pub returns-in_err-pass_down : goal.returns-in_err-pass_down
returns-in_err-pass_down g c =
    let x = err_from_is_err_and c.from_residual-in_err-pass_down.result c.from_residual-in_err-pass_down.ensures.1 in
    let a = c.in_ok-start.ensures in
    let e = c.in_err-pass_down.ensures in
    rw (x.1, x.2)
    (Programmed.goes a.accepted (not_emptied g.met.F.Flash.sane c.args.self.now c.args.at c.args.bytes.now a.accepted (rw (← c.in-Some.is) a.first) c.pass_down.new.self e.batch e.state e.down))

pub lay-requires-clause-accepted : goal.lay-requires-clause-accepted
lay-requires-clause-accepted g c =
    let a = c.in_ok-start.ensures in
    elim c.match-branch-2.branch [
      | in-Some+in_ok-pass_down w ↦
          let e = w.in_ok-pass_down.ensures in
          rw w.self-is (emptied_accepts g.met.F.Flash.sane c.args.self.now c.args.at c.args.bytes.now a.accepted (rw (← w.in-Some.is) a.first) w.pass_down.new.self e.batch e.state e.down)
      | in_default w ↦ rw w.self-is a.accepted
    ]

pub lay-requires-clause-near : goal.lay-requires-clause-near
lay-requires-clause-near g c =
    let a = c.in_ok-start.ensures in
    elim c.match-branch-2.branch [
      | in-Some+in_ok-pass_down w ↦ rw (w.self-is, w.in_ok-pass_down.ensures.state) tt
      | in_default w ↦ rw w.self-is (tells_here (sound_of g.met.F.Flash.sane c.args.self.now) _ _ _ a.accepted (rw (← w.in_default.is) a.first))
    ]

pub returns : goal.returns
returns g c =
    let a = c.in_ok-start.ensures in
    elim c.match-branch-2.branch [
      | in-Some+in_ok-pass_down w ↦
          let e = w.in_ok-pass_down.ensures in
          Programmed.goes a.accepted
          (emptied_then g.met.F.Flash.sane c.args.self.now c.args.at c.args.bytes.now a.accepted (rw (← w.in-Some.is) a.first) w.pass_down.new.self e.batch e.state e.down (rw (← w.self-is) c.lay.ensures))
      | in_default w ↦ Programmed.goes a.accepted (rw (← w.self-is) c.lay.ensures)
    ]
