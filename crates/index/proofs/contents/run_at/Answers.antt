use Rattle.std.proofs.Common.{◌≡◌, ℕ, rules, sym, subst}
use Rattle.index.specs.Blocks.{all_contents}
use Rattle.index.specs.Runs.{run_at, RunsAlike}
use Rattle.index.proofs.Alike.{runs_alike}
use Rattle.index.proofs.contents.run_at.Goals as goal

pub returns-clause-alike : goal.returns-clause-alike
returns-clause-alike c =
    let cs = all_contents c.args.blocks.now in
    let far : c.map_or.result ≡ (run_at cs c.args.ino c.args.at c.args.limit).end = search rules in
    subst (λ (n : ℕ). RunsAlike cs c.args.ino c.args.at n) (sym far) (runs_alike cs c.args.ino c.args.at c.args.limit)
