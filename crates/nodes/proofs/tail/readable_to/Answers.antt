use Rattle.std.proofs.Common.{refl}
use Rattle.nodes.proofs.Cuts.{flags_readable}
use Rattle.nodes.proofs.tail.readable_to.Goals as goal

pub returns : goal.returns
returns c =
    flags_readable c.args.flags.now c.args.at c.args.n _ _ c.requires.0 refl c.div_ceil.ensures c.get.result c.is_some_and.result c.get.ensures.lookup c.is_some_and.ensures
