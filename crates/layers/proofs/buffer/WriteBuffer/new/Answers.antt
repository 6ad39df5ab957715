use Rattle.std.proofs.Common.{ℕ, sym, ◌∙◌, refl}
use lib.ListN.{length-replicate}
use Rattle.layers.proofs.Moves.{blank_holds}
use Rattle.layers.proofs.Start.{suits_is}
use Rattle.layers.proofs.buffer.WriteBuffer.new.Goals as goal

pub invariant_of-result : goal.invariant_of-result
invariant_of-result g c =
    let e = c.shape-shape.ensures in
    let q = suits_is _ _ c.if-not-fits.ensures in
    record {
      some = q.3;
      small = q.2;
      words = q.1;
      pages = sym e.2 ∙ q.0;
      batches = sym e.3;
      full = length-replicate {A = ℕ} 512 255;
      holding = blank_holds _ _ q.2 refl;
    }
