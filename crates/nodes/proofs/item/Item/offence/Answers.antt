use Rattle.std.proofs.Common.{sym, ap, ◌∙◌}
use Rattle.nodes.specs.Offences.{offence_of}
use Rattle.nodes.specs.Views.{item_shown}
use Rattle.nodes.proofs.Judging.{judged}
use Rattle.nodes.proofs.item.Item.offence.Goals as goal

pub returns-in-Entry-clause-judged : goal.returns-in-Entry-clause-judged
returns-in-Entry-clause-judged c = judged _ _ (c.entry_offence.ensures ∙ ap (λ i. offence_of (item_shown i)) (sym c.in-Entry.is))

pub returns-in-Content-clause-judged : goal.returns-in-Content-clause-judged
returns-in-Content-clause-judged c = judged _ _ (c.content_offence.ensures ∙ ap (λ i. offence_of (item_shown i)) (sym c.in-Content.is))
