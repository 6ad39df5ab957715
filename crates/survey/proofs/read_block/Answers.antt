use Rattle.std.proofs.Common.{◌≡◌, rules}
use Rattle.flash.specs.declared.refusal.Refusal.TheVariants.{Unreadable}
use Rattle.survey.proofs.Blocks.{block_refused, block_read, block_words}
use Rattle.survey.proofs.read_block.Goals as goal

pub returns-in-Ok : goal.returns-in-Ok
returns-in-Ok g c = block_read _ _ _ _ _ (g.met.F.Flash.sane c.args.flash.now) _ c.read.auto.out (search rules) c.in-Ok.ensures

pub returns-then-ne : goal.returns-then-ne
returns-then-ne g c = block_refused _ _ _ _ _ c.in-Err.refusal c.in-Err.ensures (search rules)

pub returns-else-ne : goal.returns-else-ne
returns-else-ne g c =
    let e : c.in-Err.refusal ≡ Unreadable = search rules in
    block_words _ _ _ _ _ _ _ (rw (← e) c.in-Err.ensures) c.read_words.ensures
