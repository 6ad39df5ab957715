use Rattle.std.proofs.Common.{◌∙◌, rules, tests}
use Rattle.std.proofs.lemmas.Iterator.{YieldsList-from_slice}
use Rattle.std.proofs.lemmas.Iterator.Search.{all_from_yields_List}
use Rattle.nodes.proofs.Judging.{kept, plain_all}
use Rattle.nodes.proofs.judge.is_plain.Goals as goal

pub returns : goal.returns
returns c =
    all_from_yields_List kept _ _ _ c.all.ensures.ran (YieldsList-from_slice c.args.name.now cc) (λ x b q k. search (rules, tests)) ∙ plain_all c.args.name.now
