use Rattle.std.proofs.Common.{◌*◌, refl, ap, sym, ◌∙◌, arith}
use Rattle.devices.proofs.Readable.{lost_is}
use Rattle.devices.proofs.pages.Block.is_lost.Goals as goal

pub returns : goal.returns
returns c =
    let self = c.args.self.now in
    let size = ap (λ n. n * self.page) self.flags in
    lost_is self.page self.some self.lost.now self.bytes.now (self.full ∙ sym size) c.args.offset c.args.n c.if-n-eq0.false (omega (arith, size, c.requires)) _ refl refl _ c.contains.ensures.value
