use Rattle.std.proofs.Common.{arith}
use Rattle.std.proofs.lemmas.Grind.{common_steps}
use Rattle.encode.proofs.Filling.{fills}
use Rattle.encode.proofs.filler.filling.Goals as goal

pub returns-clause-filled : goal.returns-clause-filled
returns-clause-filled c = λ _. fills _ (grind (arith, common_steps, c.in_ok-n.ensures)) (grind (arith, common_steps, c.in_ok-n.ensures))
