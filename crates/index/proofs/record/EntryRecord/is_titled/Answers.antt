use Rattle.std.proofs.Common.{rules}
use Rattle.std.proofs.lemmas.Bool.Decides.{Decides-eqb}
use Rattle.std.proofs.lemmas.Slice.Eq.{slice_eq-Decides, bytes_eq-Decides}
use Rattle.tree.specs.Nodes.{titled}
use Rattle.index.proofs.record.EntryRecord.is_titled.Goals as goal

pub returns-then-self-pino : goal.returns-then-self-pino
unfolding titled
returns-then-self-pino c = let d = slice_eq-Decides Decides-eqb c.as_slice.result.now c.args.name.now c.eq.result c.eq.ensures in search (rules, bytes_eq-Decides)

pub returns-else-self-pino : goal.returns-else-self-pino
unfolding titled
returns-else-self-pino c = search rules
