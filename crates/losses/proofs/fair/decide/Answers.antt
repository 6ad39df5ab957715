use Rattle.std.proofs.Common.{◌∙◌}
use Rattle.std.proofs.lemmas.Bool.{ne_eqb}
use Rattle.losses.proofs.Lockstep.{lengths_differ, lengths_same}
use Rattle.losses.proofs.fair.decide.Goals as goal

pub returns-then-want-got : goal.returns-then-want-got
returns-then-want-got c = lengths_same c.args.want c.args.got c.only_first.result c.if-want-got.true c.only_first.ensures

pub returns-else-want-got : goal.returns-else-want-got
returns-else-want-got c = ne_eqb _ _ c.if-want-got.false ∙ lengths_differ c.args.want c.args.got c.if-want-got.false
