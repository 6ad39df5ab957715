use Rattle.std.proofs.Common.{◌≡◌, ◌+◌, ◌-◌, ◌*◌, ap, sym, ◌∙◌, add-mul, one-mul, arith}
use Rattle.devices.proofs.Shown.{used_lost, used_bytes}
use Rattle.devices.proofs.pages.Block.in_use.Goals as goal

pub returns-then-self-i : goal.returns-then-self-i
returns-then-self-i c =
    let self = c.args.self.now in
    used_lost self.page self.lost.now self.bytes.now (self.full ∙ ap (λ n. n * self.page) (sym self.flags)) c.args.i (omega (arith, self.flags, c.requires)) c.if-self-i.true

pub returns-else-self-i : goal.returns-else-self-i
returns-else-self-i c =
    let self = c.args.self.now in
    let i = c.args.i in
    let n : (i + 1) * self.page - i * self.page ≡ self.page = omega (arith, add-mul i 1 self.page, one-mul self.page) in
    used_bytes self.page self.lost.now self.bytes.now (self.full ∙ ap (λ n. n * self.page) (sym self.flags)) i (omega (arith, self.flags, c.requires)) _ _ c.if-self-i.false n c.reach.ensures.value
