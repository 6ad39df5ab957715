use Rattle.std.proofs.lemmas.Result.{err_from_is_err_and}
use Rattle.layers.proofs.Others.{erased_of, erase_refused}
use Rattle.layers.proofs.Refuse.{mark_place}
use Rattle.layers.proofs.calls.WriteBufferFlash.erase.Goals as goal

pub returns-in_err-mark : goal.returns-in_err-mark
returns-in_err-mark g c =
    let x = err_from_is_err_and c.from_residual.result c.from_residual.ensures.1 in
    rw (x.1, x.2) (erase_refused _ _ _ _ _ c.in_err-mark.ensures)

pub invariant_of-self : goal.invariant_of-self
invariant_of-self g c =
    let w = c.args.self.now in
    let k = (erased_of g.met.F.Flash.sane w (mark_place _ _ _ c.in_ok-mark.ensures) c.erase-answer.ensures c.left-self.ensures c.kept-self.ensures.value).0 in
    record { some = w.some; small = w.small; words = w.words; pages = k.pages; batches = k.batches; full = c.kept-self.ensures.long w.full; holding = k.holding }

pub returns : goal.returns
returns g c = (erased_of g.met.F.Flash.sane c.args.self.now (mark_place _ _ _ c.in_ok-mark.ensures) c.erase-answer.ensures c.left-self.ensures c.kept-self.ensures.value).1
