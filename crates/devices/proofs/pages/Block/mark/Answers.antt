use Rattle.std.proofs.Common.{◌≡◌, ◌*◌, not, false, length, ap, sym, ◌∙◌, rules}
use Rattle.flash.proofs.Extents.{extent_at}
use Rattle.devices.specs.Pages.{pages_used, mark_of}
use Rattle.devices.specs.SanePages.{used_long}
use Rattle.devices.proofs.pages.Block.mark.Goals as goal

pub returns : goal.returns
unfolding mark_of
returns c =
    let self = c.args.self.now in
    let us = pages_used self.page self.lost.now self.bytes.now in
    let long : length us ≡ 8 = used_long self.page self.lost.now self.bytes.now (self.full ∙ ap (λ n. n * self.page) (sym self.flags)) ∙ self.flags in
    ap (λ n. n * self.page) (extent_at not us _ false (search rules) (λ i h l. search rules) (λ h. search rules))
