use Rattle.std.proofs.Common.{rules}
use Rattle.encode.proofs.Filling.{padding_put, zeros_put}
use Rattle.encode.proofs.filler.put_filling.Goals as goal

pub returns-then-n-ge12 : goal.returns-then-n-ge12
returns-then-n-ge12 c =
    padding_put c.args.n c.args.out.now _ _ c.header.result c.if-n-ge12.true c.requires.1.0 c.requires.0 (search rules) c.header.ensures c.put_words.ensures

pub returns-else-n-ge12 : goal.returns-else-n-ge12
returns-else-n-ge12 c = zeros_put c.args.n c.args.out.now _ c.if-n-ge12.false c.requires.0 (search rules)
