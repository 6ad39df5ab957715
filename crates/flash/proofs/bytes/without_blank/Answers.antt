use Rattle.std.proofs.Common.{rules, ◌∙◌}
use Rattle.flash.proofs.Extents.{used_cut}
use Rattle.flash.proofs.bytes.without_blank.Goals as goal

pub loop-shorter-init : goal.loop-shorter-init
loop-shorter-init c = search rules

pub loop-shorter-smaller : goal.loop-shorter-smaller
loop-shorter-smaller c = search rules

pub loop-shorter-preserved : goal.loop-shorter-preserved
loop-shorter-preserved c =
    let w = c.in-Some.ensures.cases in
    (used_cut _ _ _ 64 (search rules) w.0 w.1 ∙ c.loop-shorter.invariant.0, search rules)

pub returns-clause-value : goal.returns-clause-value
returns-clause-value c = c.loop-shorter.invariant.0

pub returns-clause-within : goal.returns-clause-within
returns-clause-within c = c.loop-shorter.invariant.1
