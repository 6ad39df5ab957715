use Rattle.std.proofs.Common.{rules}
use Rattle.layers.specs.Sanity.{sound_of}
use Rattle.layers.proofs.Told.{tells_nothing, tells_down}
use Rattle.layers.proofs.buffer.WriteBuffer.direct.Goals as goal

pub returns-then-is_empty-clause-goes : goal.returns-then-is_empty-clause-goes
returns-then-is_empty-clause-goes g c =
    tells_nothing (sound_of g.met.F.Flash.sane c.args.self.now) _ _ _ c.requires.accepted (rw c.requires.empty tt) (search rules)

pub returns-clause-goes : goal.returns-clause-goes
returns-clause-goes g c =
    let v = c.send.new.self in
    rw (c.send.ensures.state, c.send.ensures.batch)
    (tells_down (sound_of g.met.F.Flash.sane c.args.self.now) _ _ _ c.requires.accepted _ _ (g.met.F.Flash.sane v.below) v.held c.requires.empty c.requires.whole.0 c.requires.whole.1 c.send.ensures.down)
