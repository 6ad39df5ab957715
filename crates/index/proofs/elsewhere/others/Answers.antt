use Rattle.std.proofs.Common.{◌≡◌, min, length, drop, ap, ◌∙◌, add-one, rules}
use Rattle.std.proofs.lemmas.List.{take_rest, drop_min, drop-drop}
use Rattle.index.proofs.elsewhere.others.Goals as goal

pub returns-clause-above : goal.returns-clause-above
returns-clause-above c =
    let bs = c.args.blocks.now in
    let home = c.args.home in
    let rest = c.split_at.result.1.now in
    let first : c.min.result ≡ min home (length bs) = search rules in
    let second : c.min-2.result ≡ min 1 (length rest) = search rules in
    take_rest rest _ ∙ ap (λ n. drop n rest) second ∙ drop_min 1 rest
    ∙ ap (drop 1) (c.split_at.ensures.back ∙ ap (λ n. drop n bs) first ∙ drop_min home bs)
    ∙ drop-drop 1 home bs ∙ ap (λ n. drop n bs) (add-one home)
