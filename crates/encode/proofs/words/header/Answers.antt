use Rattle.std.proofs.Common.{ap, ◌∙◌, arith}
use Rattle.std.proofs.lemmas.Grind.{common_steps}
use Rattle.crc32.specs.Sum.{sum}
use Rattle.kinds.specs.Kinds.{kind_value}
use Rattle.encode.specs.Encode.{spread}
use Rattle.encode.proofs.Parts.{head_words}
use Rattle.encode.proofs.words.header.Goals as goal

pub returns : goal.returns
unfolding spread
returns c =
    head_words (kind_value c.args.kind) c.args.totlen _ c.sum_of-sum.result (omega arith) (omega arith)
    (c.sum_of-sum.ensures ∙ ap sum (grind (arith, common_steps)))
