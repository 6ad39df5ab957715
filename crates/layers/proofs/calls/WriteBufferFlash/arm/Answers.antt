use Rattle.layers.specs.Sanity.{sound_of}
use Rattle.layers.proofs.Others.{arms}
use Rattle.layers.proofs.calls.WriteBufferFlash.arm.Goals as goal

pub returns : goal.returns
returns g c = (arms (sound_of g.met.F.Flash.sane c.args.self.now) _ _ c.arm.ensures).1

pub invariant_of-self : goal.invariant_of-self
invariant_of-self g c =
    let w = c.args.self.now in
    let k = (arms (sound_of g.met.F.Flash.sane w) _ _ c.arm.ensures).0 in
    record { some = w.some; small = w.small; words = w.words; pages = k.pages; batches = k.batches; full = w.full; holding = k.holding }
