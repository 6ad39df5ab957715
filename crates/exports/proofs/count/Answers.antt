use Rattle.std.proofs.Common.{length, ap, ◌∙◌}
use Rattle.std.proofs.lemmas.Iterator.Consumers.{count_from_yields_List}
use Rattle.std.proofs.lemmas.List.{length-map}
use Rattle.nodes.specs.Reading.{rest, found_at}
use Rattle.nodes.proofs.Reading.{finds_all}
use Rattle.exports.proofs.count.Goals as goal

pub returns : goal.returns
returns c =
    let reader = c.new.result in
    count_from_yields_List reader _ c.count.ensures.ran (finds_all reader) ∙ length-map (rest reader) (found_at reader.block) ∙ ap length c.new.ensures.all
