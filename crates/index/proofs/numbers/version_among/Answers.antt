use Rattle.std.proofs.Common.{rules, ℕ, ◌≡◌, fold, ◌∙◌}
use Rattle.tree.specs.Numbers.{greater_of}
use Rattle.index.proofs.Folds.{folded_rows}
use Rattle.index.proofs.numbers.version_among.Goals as goal

pub returns : goal.returns
returns g c =
    let higher = λ (n : ℕ) (r : g.row.R.Denot). greater_of c.args.number n (g.R.Record.number r) (g.R.Record.version r) in
    let rows : c.fold.result ≡ fold (λ n b. fold higher n (g.R.Record.listed b)) c.args.found c.args.blocks.now = search rules in
    rows ∙ folded_rows higher g.R.Record.listed c.args.found c.args.blocks.now
