use Rattle.std.proofs.Common.{rules}
use Rattle.tree.specs.Laws.{Laws, Lawful}
use Rattle.tree.proofs.Drop.{same_nodes, dropping}
use Rattle.tree.proofs.Append.{applies, needs_nothing_more, tells_apart}
use Rattle.tree.proofs.Calls.{room, calls_apply, calls_need, calls_apart}
use Rattle.tree.proofs.Decide.{decided}
use Rattle.tree.proofs.Newest.{scanned}
use Rattle.tree.proofs.Spent.{spent_is_found, stands_unspent}
use Rattle.tree.proofs.Looks.{looking}
use Rattle.tree.proofs.Records.{lookups}
use Rattle.tree.proofs.Examples.{examples}
use Rattle.tree.proofs.supersedes.Goals as goal

laws : Laws
laws = record {
  same_nodes = same_nodes;
  dropping = dropping;
  applies = applies;
  needs_nothing_more = needs_nothing_more;
  tells_apart = tells_apart;
  room = room;
  calls_apply = calls_apply;
  calls_need = calls_need;
  calls_apart = calls_apart;
  decided = decided;
  one_pass = λ version picked rs. scanned version picked rs;
  spent_found = spent_is_found;
  stands_unspent = stands_unspent;
  looking = looking;
  lookups = lookups;
  examples = examples;
}

pub returns : goal.returns
unfolding Lawful
returns c = record { value = search rules; laws = laws }
