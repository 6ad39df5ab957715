use Rattle.std.proofs.Common.{rules, ◌∙◌}
use Rattle.flash.proofs.Extents.{extent_at}
use Rattle.flash.proofs.bytes.reach.Goals as goal

pub returns-clause-value : goal.returns-clause-value
returns-clause-value c = extent_at _ c.without_blank.result.now _ 0 (search rules) (λ i h l. search rules) (λ h. search rules) ∙ c.without_blank.ensures.value
