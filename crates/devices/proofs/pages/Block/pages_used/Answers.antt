use Rattle.std.proofs.Common.{◌≡◌, ◌*◌, length, get_or, false, ap, sym, ◌∙◌, rules, tests, arith}
use Rattle.std.proofs.lemmas.List.{get_or_default}
use Rattle.devices.specs.Pages.{pages_used}
use Rattle.devices.specs.SanePages.{used_long}
use Rattle.devices.proofs.Arrays.{made_is}
use Rattle.devices.proofs.pages.Block.pages_used.Goals as goal

pub returns : goal.returns
returns c =
    let self = c.args.self.now in
    let us = pages_used self.page self.lost.now self.bytes.now in
    let long : length us ≡ 8 = used_long self.page self.lost.now self.bytes.now (self.full ∙ ap (λ n. n * self.page) (sym self.flags)) ∙ self.flags in
    made_is _ _ (λ i. get_or us i false) 8 (λ x y q h k. search (rules, tests)) _ us c.from_fn.ensures.items long (λ j d h. get_or_default us j d false (omega arith))
