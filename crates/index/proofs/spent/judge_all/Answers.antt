use Rattle.std.proofs.Common.{ℕ, suc, ◌<◌, ◌≤◌, List, length, sym, subst, add-one, arith}
use Rattle.index.specs.declared.block.Block.{Block}
use Rattle.index.proofs.Rising.{Risen, risen_none, risen_more, risen_all}
use Rattle.index.proofs.spent.judge_all.Goals as goal

pub loop-i-init : goal.loop-i-init
loop-i-init c = let bs = c.args.blocks.now in subst (λ (l : List Block). Risen bs l 0) (sym c.requires) (risen_none bs)

pub loop-i-preserved : goal.loop-i-preserved
loop-i-preserved c =
    let bs = c.args.blocks.now in
    let i = c.loop-i.i in
    let h : i < length bs = omega arith in
    subst (λ (n : ℕ). Risen bs c.judge.new.blocks n) (sym (add-one i))
    (subst (λ (l : List Block). Risen bs l (suc i)) (sym c.judge.ensures) (risen_more bs c.loop-i.blocks i h c.loop-i.invariant))

pub returns : goal.returns
returns c =
    let bs = c.args.blocks.now in
    let h : length bs ≤ c.loop-i.i = omega arith in
    risen_all bs c.loop-i.blocks c.loop-i.i h c.loop-i.invariant
