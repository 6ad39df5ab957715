use borrow.Author.Tests.{tests}
use Rattle.std.proofs.Common.{◌+◌, ◌-◌, ◌^◌, min, ◌∙◌, rules}
use Rattle.std.proofs.lemmas.Iterator.{YieldsList-from_slice}
use Rattle.std.proofs.lemmas.Iterator.Adapters.{YieldsList-from_flat_map}
use Rattle.std.proofs.lemmas.Iterator.Consumers.{YieldsList-at, YieldsList-from_filter, fold_from_yields_List}
use Rattle.index.specs.Blocks.{entries_in, all_entries}
use Rattle.index.specs.Names.{lists}
use Rattle.index.proofs.Folds.{counted}
use Rattle.index.proofs.entries.count_names.Goals as goal

pub returns : goal.returns
returns c =
    let es = all_entries c.args.blocks.now in
    let m = 2 ^ 64 - 1 in
    fold_from_yields_List _ (λ n e. min (n + 1) m) 0 c.fold.result c.fold.ensures.ran
    (YieldsList-from_filter _ (lists es c.args.pino) (YieldsList-at c.filter.ensures.source
    (YieldsList-from_flat_map _ _ _ (λ e. e.now) entries_in _ (λ b es q k. (search rules, λ j i. YieldsList-from_slice _ (search (rules, tests))))
    (YieldsList-at c.flat_map.ensures.source (YieldsList-from_slice c.args.blocks.now cc))
    c.flat_map.ensures.closure c.flat_map.ensures.front c.flat_map.ensures.back c.flat_map.ensures.done)) c.filter.ensures.closure
    (λ e b q k. search (rules, tests)))
    (λ n e r q k. search (rules, tests))
    ∙ counted (lists es c.args.pino) m es
