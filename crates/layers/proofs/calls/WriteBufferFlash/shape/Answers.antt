use Rattle.std.proofs.Common.{refl}
use Rattle.layers.proofs.Start.{words_shaped}
use Rattle.layers.proofs.calls.WriteBufferFlash.shape.Goals as goal

pub returns : goal.returns
returns g c = words_shaped _ _ _ _ _ c.shape.ensures (refl, refl, refl, refl)
