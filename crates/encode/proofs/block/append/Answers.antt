use Rattle.std.proofs.Common.{arith}
use Rattle.encode.proofs.Laying.{block_appends, block_opens}
use Rattle.encode.proofs.Parts.{put_part}
use Rattle.encode.proofs.block.append.Goals as goal

pub returns-clause-appended : goal.returns-clause-appended
returns-clause-appended c = λ _. block_appends c.args.block.now c.args.end c.args.bytes.now _ (omega arith) (put_part c.args.end _ _ _ _ c.copy_from_slice.ensures.after (omega arith))

pub returns-clause-opened : goal.returns-clause-opened
returns-clause-opened c = λ _. block_opens c.args.block.now c.args.end c.args.bytes.now _ (omega arith) (put_part c.args.end _ _ _ _ c.copy_from_slice.ensures.after (omega arith))
