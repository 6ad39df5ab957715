use Rattle.std.proofs.Common.{arith}
use Rattle.layers.specs.Sanity.{sound_of}
use Rattle.layers.proofs.Put.{put_batch}
use Rattle.layers.proofs.Told.{tells_complete}
use Rattle.layers.proofs.buffer.WriteBuffer.complete.Goals as goal

pub returns-clause-goes : goal.returns-clause-goes
returns-clause-goes g c =
    let w = c.args.self.now in
    let v = c.send.new.self in
    rw (c.send.ensures.state, c.send.ensures.batch)
    (tells_complete (sound_of g.met.F.Flash.sane w) _ _ _ c.requires.accepted _ _ (g.met.F.Flash.sane v.below) v.held c.requires.near w.some c.requires.whole _
    (put_batch w.batch w.held _ _ (omega (arith, c.requires.whole)) (omega (arith, w.small, w.full)) _ c.copy_from_slice.ensures.after) c.send.ensures.down)
