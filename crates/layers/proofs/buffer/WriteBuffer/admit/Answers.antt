use Rattle.std.proofs.Common.{◌+◌, ◌≤◌, arith}
use Rattle.std.proofs.lemmas.Result.{err_from_is_err_and}
use Rattle.layers.proofs.Refuse.{refused_place, refused_outside, refused_offset, refused_length, refused_below, refused_other, accepted_here}
use Rattle.layers.proofs.buffer.WriteBuffer.admit.Goals as goal
use Rattle.layers.proofs.buffer.WriteBuffer.admit.Goals.{then-n-size-via-then-n-size, then-n-size-via-else-n-size+then-at-size, then-at-ne0-via-then-at-ne0, then-at-ne0-via-else-at-ne0+then-n-ne0}

pub returns-in_err-mark-clause-refused : goal.returns-in_err-mark-clause-refused
returns-in_err-mark-clause-refused g c =
    let x = err_from_is_err_and c.from_residual.result c.from_residual.ensures.1 in
    rw (x.1, x.2) (refused_place g.met.F.Flash.sane c.args.self.now c.args.at c.args.n _ c.in_err-mark.ensures)

pub returns-then-n-size-clause-refused : goal.returns-then-n-size-clause-refused
returns-then-n-size-clause-refused g c =
    refused_outside g.met.F.Flash.sane c.args.self.now c.args.at c.args.n c.in_ok-mark.ensures c.shape-size.ensures.1
    (elim c.then-n-size.branch [
      | then-n-size-via-then-n-size w ↦ omega (arith, w.if-n-size.true)
      | then-n-size-via-else-n-size+then-at-size w ↦ omega (arith, w.if-n-size.false, w.if-at-size.true)
    ])

pub returns-then-at-ne0-clause-refused : goal.returns-then-at-ne0-clause-refused
returns-then-at-ne0-clause-refused g c =
    let fits : c.args.at.offset + c.args.n ≤ c.shape-size.result.size = omega (arith, c.if-n-size.false, c.if-at-size.false) in
    elim c.then-at-ne0.branch [
      | then-at-ne0-via-then-at-ne0 w ↦ refused_offset g.met.F.Flash.sane c.args.self.now c.args.at c.args.n c.in_ok-mark.ensures c.shape-size.ensures.1 fits w.if-at-ne0.true
      | then-at-ne0-via-else-at-ne0+then-n-ne0 w ↦
          refused_length g.met.F.Flash.sane c.args.self.now c.args.at c.args.n c.in_ok-mark.ensures c.shape-size.ensures.1 fits w.if-at-ne0.false w.if-n-ne0.true
    ]

pub returns-then-at-mark-clause-refused : goal.returns-then-at-mark-clause-refused
returns-then-at-mark-clause-refused g c =
    refused_below g.met.F.Flash.sane c.args.self.now c.args.at c.args.n c.in_ok-mark.ensures c.shape-size.ensures.1
    (omega (arith, c.if-n-size.false, c.if-at-size.false)) c.if-at-ne0.false c.if-n-ne0.false c.if-at-mark.true

pub returns-clause-refused : goal.returns-clause-refused
returns-clause-refused g c =
    refused_other g.met.F.Flash.sane c.args.self.now c.args.at c.args.n c.in_ok-mark.ensures c.shape-size.ensures.1
    (omega (arith, c.if-n-size.false, c.if-at-size.false)) c.if-at-ne0.false c.if-n-ne0.false c.if-at-mark.false _ c.decide.ensures

pub returns-clause-accepted : goal.returns-clause-accepted
returns-clause-accepted g c =
    accepted_here g.met.F.Flash.sane c.args.self.now c.args.at c.args.n c.in_ok-mark.ensures c.shape-size.ensures.1
    (omega (arith, c.if-n-size.false, c.if-at-size.false)) c.if-at-ne0.false c.if-n-ne0.false c.if-at-mark.false _ c.decide.ensures
