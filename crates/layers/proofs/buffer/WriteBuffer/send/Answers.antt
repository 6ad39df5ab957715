use lib.ListN.{length-replicate}
use Rattle.std.proofs.Common.{ℕ, refl}
use Rattle.layers.specs.Sanity.{sound_of}
use Rattle.layers.proofs.Others.{sends}
use Rattle.layers.proofs.buffer.WriteBuffer.send.Goals as goal

pub invariant_of-self : goal.invariant_of-self
invariant_of-self g c =
    let w = c.args.self.now in
    let k = sends (sound_of g.met.F.Flash.sane w) _ _ _ _ _ c.program-answer.ensures _ refl in
    record { some = w.some; small = w.small; words = w.words; pages = k.pages; batches = k.batches; full = length-replicate {A = ℕ} 512 255; holding = k.holding }
