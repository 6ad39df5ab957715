use borrow.Author.Tests.{tests}
use Rattle.std.proofs.Common.{Some, None, option_copied, refl, ◌∙◌, rules}
use Rattle.std.proofs.lemmas.Fn.{called_at}
use Rattle.std.proofs.lemmas.Iterator.{YieldsList-from_slice}
use Rattle.std.proofs.lemmas.Iterator.Adapters.{YieldsList-from_flat_map}
use Rattle.std.proofs.lemmas.Iterator.Consumers.{YieldsList-at, YieldsList-from_filter}
use Rattle.tree.specs.Newest.{better}
use Rattle.index.proofs.Folds.{fold_seen, newest_picked}
use Rattle.index.proofs.newest.newest.Goals as goal

-- the chain gives the picked records of all blocks, and what is folded over them is the newest
pub returns : goal.returns
returns g c picked acts =
    c.copied.ensures
    ∙ fold_seen (λ r. r.now) option_copied _ (λ best r. Some (better g.R.Record.version best r)) _ (λ best r b q k. search (rules, tests)) None c.fold.result c.fold.ensures.ran
    (YieldsList-from_filter _ picked (YieldsList-at c.filter.ensures.source
    (YieldsList-from_flat_map _ _ _ (λ r. r.now) g.R.Record.listed _ (λ b r q k. (search rules, λ j i. YieldsList-from_slice _ (search (rules, tests))))
    (YieldsList-at c.flat_map.ensures.source (YieldsList-from_slice c.args.blocks.now cc))
    c.flat_map.ensures.closure c.flat_map.ensures.front c.flat_map.ensures.back c.flat_map.ensures.done)) c.filter.ensures.closure
    (λ r b q k. (search rules, (acts r.now b c.args.picks (called_at g.F.Fn {f = c.args.picks} {f' = c.args.picks} {y = r} (search (rules, tests)) refl)).1)))
    ∙ newest_picked g.R.Record.version picked _
