use Rattle.std.proofs.Common.{◌+◌, ◌*◌, ◌∙◌, arith}
use Rattle.encode.proofs.Parts.{put_part, over_none, words_more}
use Rattle.encode.proofs.words.put_words.Goals as goal

pub loop-i-init : goal.loop-i-init
loop-i-init c = over_none c.args.out.now c.args.at

pub loop-i-preserved : goal.loop-i-preserved
loop-i-preserved c =
    put_part (c.args.at + 4 * c.loop-i.i) _ c.loop-i.out _ _ c.copy_from_slice.ensures.after (omega arith)
    ∙ words_more c.args.out.now c.args.at c.args.words.now c.loop-i.i _ _ (omega arith) c.loop-i-test.true c.loop-i.invariant c.to_le_bytes.ensures
