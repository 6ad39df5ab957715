use Rattle.std.proofs.Common.{◌≡◌, false, cond, sym, ap, ◌∙◌}
use Rattle.index.specs.declared.block.State.TheVariants.{Spent}
use Rattle.index.specs.Missed.{misses, changed}
use Rattle.index.proofs.Rising.{set_changed}
use Rattle.index.proofs.spent.judge.Goals as goal

pub returns-then-not-misses : goal.returns-then-not-misses
returns-then-not-misses c =
    let bs = c.args.blocks.now in
    let i = c.args.i in
    let e : misses bs i ≡ false = sym c.misses.ensures ∙ c.if-not-misses.true in
    set_changed bs i Spent c.index-blocks-i.result ∙ sym (ap (λ m. cond m bs (changed i Spent bs)) e)
