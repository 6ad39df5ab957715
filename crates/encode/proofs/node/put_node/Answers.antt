use Rattle.std.proofs.Common.{◌≡◌, ◌+◌, ◌*◌, length, sym, ap, ◌∙◌, arith}
use Rattle.std.proofs.lemmas.Grind.{common_steps}
use Rattle.flash.specs.Cells.{over}
use Rattle.encode.specs.Encode.{head, spread}
use Rattle.encode.specs.Node.{node_item}
use Rattle.encode.proofs.Nodes.{node_put}
use Rattle.encode.proofs.Parts.{put_part}
use Rattle.encode.proofs.node.put_node.Goals as goal

pub returns-clause-bytes : goal.returns-clause-bytes
returns-clause-bytes g c =
    let n = g.N.Node in
    let held = c.held-held.result.now in
    let words = c.words.result in
    let front = 12 + 4 * g.row.WORDS in
    let total = 20 + 4 * g.row.WORDS + length held in
    let header : spread c.header.result ≡ head n.kind total = rw c.kind.ensures at c.header.ensures ∙ ap (head n.kind) (omega arith) in
    let is : n.item c.args.node.now ≡ node_item n.kind total words n.sums held = rw (c.words.ensures.value, c.held-held.ensures.value) (c.words.ensures.made c.requires.short).0 in
    node_put n.kind total front c.args.out.now c.header.result words _ _ header (omega arith) c.put_words.ensures c.put_words-2.ensures
    _ _ n.sums c.sums.result held _ _ (grind (arith, common_steps)) c.sum_of.ensures c.sums.ensures (omega arith) c.put_words-3.ensures
    (put_part (front + 8) _ c.put_words-3.new.out _ held c.copy_from_slice.ensures.after (omega arith))
    ∙ ap (over c.args.out.now 0) (sym is)
