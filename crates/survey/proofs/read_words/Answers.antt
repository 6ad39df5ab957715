use Rattle.std.proofs.Common.{◌/◌, ◌<◌, min, length, ◌∙◌, arith}
use Rattle.survey.proofs.Words.{word_more, seen_all, shown_whole}
use Rattle.survey.proofs.read_words.Goals as goal

pub loop-i-init : goal.loop-i-init
loop-i-init g c fits j h = absurd (omega arith)

pub loop-i-preserved : goal.loop-i-preserved
loop-i-preserved g c fits j h =
    let i = c.loop-i.i in
    let bs = c.loop-i.bytes in
    let gs = c.loop-i.readable in
    let words : i < min (length c.args.readable.now) (length c.args.bytes.now / 4) = omega (arith, c.loop-i-test.true, c.min-words.ensures) in
    word_more _ _ _ _ (g.met.F.Flash.sane c.args.flash.now) fits bs gs i (omega arith) (omega arith) c.loop-i.auto.bytes _ _ c.note_word.ensures (c.loop-i.invariant fits) j (omega arith)

pub returns : goal.returns
returns g c fits =
    seen_all c.loop-i.readable c.loop-i.bytes _ (c.loop-i.auto.bytes ∙ shown_whole _ _ _ _ (g.met.F.Flash.sane c.args.flash.now) fits)
    (λ j h. c.loop-i.invariant fits j (omega (arith, c.loop-i-test.false, c.min-words.ensures, c.loop-i.auto.bytes)))
