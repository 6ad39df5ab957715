use lib.ListN.{length-replicate}
use Rattle.std.proofs.Common.{ℕ, refl}
use Rattle.layers.specs.Sanity.{sound_of}
use Rattle.layers.proofs.Others.{restarts}
use Rattle.layers.proofs.calls.WriteBufferFlash.restart.Goals as goal

pub returns : goal.returns
returns g c = (restarts (sound_of g.met.F.Flash.sane c.args.self.now) _ c.restart.ensures _ refl).1

pub invariant_of-self : goal.invariant_of-self
invariant_of-self g c =
    let w = c.args.self.now in
    let k = (restarts (sound_of g.met.F.Flash.sane w) _ c.restart.ensures _ refl).0 in
    record { some = w.some; small = w.small; words = w.words; pages = k.pages; batches = k.batches; full = length-replicate {A = ℕ} 512 255; holding = k.holding }
