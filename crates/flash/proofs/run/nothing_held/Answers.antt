use Rattle.flash.proofs.Settled.{nothing_held_if}
use Rattle.flash.proofs.run.nothing_held.Goals as goal

pub returns-clause-held : goal.returns-clause-held
returns-clause-held g c =
    nothing_held_if c.shape.result _ _ c.shape.ensures c.settles_at_once.ensures (g.met.F.Flash.sane c.args.flash.now)
