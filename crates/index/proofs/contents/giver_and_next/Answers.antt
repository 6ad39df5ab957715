use borrow.Author.Tests.{tests}
use Rattle.std.proofs.Common.{◌≡◌, ℕ, None, ap, eqb, Option, option_copied, ◌∙◌, rules}
use Rattle.std.proofs.lemmas.Iterator.{YieldsList-from_slice}
use Rattle.std.proofs.lemmas.Iterator.Adapters.{YieldsList-from_flat_map}
use Rattle.std.proofs.lemmas.Iterator.Consumers.{YieldsList-at, YieldsList-from_filter}
use Rattle.tree.specs.Lookups.{giver}
use Rattle.index.specs.declared.record.ContentRecord.{ContentRecord}
use Rattle.index.specs.Blocks.{contents_in, all_contents}
use Rattle.index.specs.Runs.{start_after}
use Rattle.index.specs.Shown.{span_shown}
use Rattle.index.proofs.Folds.{fold_seen}
use Rattle.index.proofs.Runs.{giver_and_next, run_found}
use Rattle.index.proofs.contents.giver_and_next.Goals as goal

pub returns : goal.returns
returns c =
    let found : (option_copied c.fold-next.result.0, c.fold-next.result.1) ≡ (giver span_shown (all_contents c.args.blocks.now) c.args.ino c.args.at, start_after (all_contents c.args.blocks.now) c.args.ino c.args.at c.args.limit) =
    fold_seen (λ x. x.now) (λ s. (option_copied s.0, s.1)) _ (giver_and_next c.args.at) _ (λ s x r q t. search (rules, tests)) (None, c.args.limit) c.fold-next.result c.fold-next.ensures.ran
    (YieldsList-from_filter _ (λ x. eqb x.ino c.args.ino) (YieldsList-at c.filter.ensures.source
    (YieldsList-from_flat_map _ _ _ (λ x. x.now) contents_in _ (λ b xs q t. (search rules, λ j r. YieldsList-from_slice _ (search (rules, tests))))
    (YieldsList-at c.flat_map.ensures.source (YieldsList-from_slice c.args.blocks.now cc))
    c.flat_map.ensures.closure c.flat_map.ensures.front c.flat_map.ensures.back c.flat_map.ensures.done)) c.filter.ensures.closure
    (λ x b q t. search (rules, tests)))
    ∙ run_found c.args.ino c.args.at c.args.limit (all_contents c.args.blocks.now) in
    record { content = c.copied.ensures ∙ ap (λ (p : Option ContentRecord × ℕ). p.0) found; next = ap (λ (p : Option ContentRecord × ℕ). p.1) found }
