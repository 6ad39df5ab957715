use Rattle.std.proofs.Common.{◌/◌, sym, refl, ap, ◌∙◌, rules}
use lib.Bits.{bit_xor, xor_comm, and_mask}
use Rattle.crc32.specs.Sum.{rounds}
use Rattle.crc32.specs.Table.{HasRounds}
use Rattle.crc32.proofs.Linear.{fed_is}
use Rattle.crc32.proofs.step.Goals as goal

pub entry-requires : goal.entry-requires
unfolding HasRounds rounds
entry-requires c = ((refl, tt), search rules)

pub returns : goal.returns
returns c =
    ap (bit_xor c.entry.result) c.above_byte.ensures
    ∙ xor_comm c.entry.result (c.args.c / 256)
    ∙ ap (bit_xor (c.args.c / 256)) (c.entry.ensures ∙ ap (rounds 8) (and_mask (bit_xor c.args.c c.args.b) 8))
    ∙ sym (fed_is c.args.c c.args.b (search rules))
