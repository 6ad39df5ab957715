use Rattle.std.proofs.Common.{List, [], map, sym, ap, ◌∙◌}
use Rattle.tree.specs.Spent.{marks}
use Rattle.index.specs.declared.block.Block.{Block}
use Rattle.index.specs.declared.block.State.TheVariants.{Full}
use Rattle.index.specs.Missed.{nodes_in, twin_of, need, with_state, marked}
use Rattle.index.proofs.Rising.{full_twice, judged_alike}
use Rattle.index.proofs.spent.find_spent.Goals as goal

pub judge_all-requires : goal.judge_all-requires
judge_all-requires c =
    let e = c.fill_all.ensures in
    e ∙ sym (full_twice c.args.blocks.now) ∙ ap (map (with_state Full)) (sym e)

pub returns : goal.returns
returns c =
    c.judge_all.ensures
    ∙ ap (λ (l : List Block). marked (marks twin_of (need l) [] (map nodes_in l)) l) c.fill_all.ensures
    ∙ judged_alike c.args.blocks.now
