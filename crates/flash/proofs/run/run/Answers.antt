use Rattle.std.proofs.lemmas.Result.{err_from_is_err_and}
use Rattle.flash.specs.Ran.{all}
use Rattle.flash.proofs.Runs.{composes, ran_all, ran_more, ran_up_to}
use Rattle.flash.proofs.run.run.Goals as goal

pub loop-operation-init : goal.loop-operation-init
loop-operation-init g c = all

pub loop-operation-preserved : goal.loop-operation-preserved
loop-operation-preserved g c =
    ran_more _ _ _ c.loop-operation-test.true _ _ _ c.loop-operation.invariant c.in_ok-apply.ensures

pub returns-in_err-apply : goal.returns-in_err-apply
returns-in_err-apply g c =
    let p = err_from_is_err_and c.from_residual.result c.from_residual.ensures.1 in
    record {
      ran = rw (p.1, p.2) (ran_up_to _ _ _ c.loop-operation-test.true _ _ _ c.loop-operation.invariant _ c.in_err-apply.ensures);
      composes = composes;
    }

pub returns : goal.returns
returns g c = record { ran = ran_all _ _ c.loop-operation-test.false _ _ _ c.loop-operation.invariant; composes = composes }
