use Rattle.std.proofs.Common.{rules, ℕ, ◌≡◌, max, fold, ◌∙◌}
use Rattle.index.proofs.Folds.{folded_rows}
use Rattle.index.proofs.numbers.number_among.Goals as goal

pub returns : goal.returns
returns g c =
    let higher = λ (n : ℕ) (r : g.row.R.Denot). max n (g.R.Record.highest r) in
    let rows : c.fold.result ≡ fold (λ n b. fold higher n (g.R.Record.listed b)) c.args.found c.args.blocks.now = search rules in
    rows ∙ folded_rows higher g.R.Record.listed c.args.found c.args.blocks.now
