use Rattle.std.proofs.Common.{◌≡◌, cond, length, sym, ◌∙◌}
use Rattle.std.proofs.lemmas.Bool.{cond-true, cond-false}
use Rattle.nodes.specs.Image.{seen_in}
use Rattle.nodes.proofs.Cuts.{length_seen}
use Rattle.nodes.proofs.Reading.{start}
use Rattle.nodes.proofs.reader.Reader.new.Goals as goal
use Rattle.nodes.proofs.reader.Reader.new.Goals.{then-is_marked, else-is_marked}

pub returns-clause-all : goal.returns-clause-all
returns-clause-all c =
    let at : c.if-is_marked.at ≡ cond c.is_marked.result 0 (length (seen_in c.args.image)) =
    elim c.if-is_marked.branch [
      | then-is_marked w ↦ w.at-is ∙ sym (cond-true _ _ _ w.if-is_marked.true)
      | else-is_marked w ↦ w.at-is ∙ sym (length_seen c.args.image.readable.now 0 c.args.image.bytes.now) ∙ sym (cond-false _ _ _ w.if-is_marked.false)
    ] in
    start (seen_in c.args.image) c.is_marked.result c.if-is_marked.at c.is_marked.ensures at
