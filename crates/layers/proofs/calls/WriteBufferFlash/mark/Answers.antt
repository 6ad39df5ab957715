use Rattle.std.proofs.Common.{◌∙◌}
use Rattle.std.proofs.lemmas.Result.{err_from_is_err_and}
use Rattle.layers.specs.Sanity.{sound_of}
use Rattle.layers.proofs.Marks.{mark_raised, raised_fits, mark_held}
use Rattle.layers.proofs.Refuse.{mark_refused, mark_had, mark_place, mark_is, mark_there}
use Rattle.layers.proofs.calls.WriteBufferFlash.mark.Goals as goal

pub returns-in_err-mark : goal.returns-in_err-mark
returns-in_err-mark g c =
    let x = err_from_is_err_and c.from_residual.result c.from_residual.ensures.1 in
    rw (x.1, x.2) (mark_refused _ _ _ _ _ _ c.in_err-mark.ensures)

pub raise-requires-clause-fits : goal.raise-requires-clause-fits
raise-requires-clause-fits g c =
    let h = c.in_ok-mark.ensures in
    raised_fits (sound_of g.met.F.Flash.sane c.args.self.now) _ (mark_there _ _ _ h) _ (mark_is _ _ _ h)

pub returns-in-Some : goal.returns-in-Some
returns-in-Some g c =
    let h = c.in_ok-mark.ensures in
    mark_had _ _ _ _ (mark_place _ _ _ h) _ (rw c.reach.ensures.value (mark_held (sound_of g.met.F.Flash.sane c.args.self.now) _ _ c.in-Some.ensures))

pub returns-in-None : goal.returns-in-None
returns-in-None g c =
    let h = c.in_ok-mark.ensures in
    mark_had _ _ _ _ (mark_place _ _ _ h) _ (c.raise.ensures ∙ mark_raised (sound_of g.met.F.Flash.sane c.args.self.now) _ c.in-None.ensures _ (mark_is _ _ _ h))
