use Rattle.std.proofs.Common.{drop, rules, tests}
use Rattle.nodes.specs.Image.{seen_in}
use Rattle.losses.proofs.Comparing.{read_alike}
use Rattle.losses.proofs.compare.part_is_same.Goals as goal

pub returns : goal.returns
returns c =
    read_alike c.args.n (drop c.args.at (seen_in c.args.want)) (drop c.args.at (seen_in c.args.got)) _ _ (λ p k. search (rules, tests))
    c.bytes_at-meant.result c.bytes_at-found.result c.zip.result c.bytes_at-meant.ensures c.bytes_at-found.ensures c.zip.ensures c.is_some_and.ensures
