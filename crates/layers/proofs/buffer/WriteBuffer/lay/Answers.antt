use Rattle.std.proofs.lemmas.Result.{err_from_is_err_and}
use Rattle.flash.proofs.Batches.{room_mod}
use Rattle.layers.specs.Sanity.{sound_of}
use Rattle.layers.proofs.Buffers.{first_accepted, rest_accepted, in_two, in_first}
use Rattle.layers.proofs.Words.{room_words}
use Rattle.layers.proofs.buffer.WriteBuffer.lay.Goals as goal

pub complete-requires-clause-accepted : goal.complete-requires-clause-accepted
complete-requires-clause-accepted g c =
    first_accepted g.met.F.Flash.sane c.args.self.now _ _ c.requires.accepted c.if-run-room.false (room_words (sound_of g.met.F.Flash.sane c.args.self.now) _ _ _ c.requires.accepted c.args.self.now.some) c.split_at.ensures.first

pub returns-in_err-complete : goal.returns-in_err-complete
returns-in_err-complete g c =
    let x = err_from_is_err_and c.from_residual.result c.from_residual.ensures.1 in
    rw (x.1, x.2)
    (in_first g.met.F.Flash.sane c.args.self.now _ _ c.requires.accepted c.if-run-room.false (room_words (sound_of g.met.F.Flash.sane c.args.self.now) _ _ _ c.requires.accepted c.args.self.now.some) c.split_at.ensures.first c.in_err-complete.ensures.goes)

pub rest-requires-clause-accepted : goal.rest-requires-clause-accepted
rest-requires-clause-accepted g c =
    rest_accepted g.met.F.Flash.sane c.args.self.now _ _ c.requires.accepted c.if-run-room.false (room_words (sound_of g.met.F.Flash.sane c.args.self.now) _ _ _ c.requires.accepted c.args.self.now.some) c.split_at.ensures.first c.split_at.ensures.rest c.in_ok-complete.ensures.goes

pub rest-requires-clause-whole : goal.rest-requires-clause-whole
rest-requires-clause-whole g c =
    let w = c.args.self.now in
    rw (c.in_ok-complete.ensures.batch, c.split_at.ensures.rest.0) (room_mod c.args.run.at.offset w.batch w.some)

pub returns : goal.returns
returns g c =
    in_two g.met.F.Flash.sane c.args.self.now _ _ c.requires.accepted c.if-run-room.false (room_words (sound_of g.met.F.Flash.sane c.args.self.now) _ _ _ c.requires.accepted c.args.self.now.some) c.split_at.ensures.first c.split_at.ensures.rest c.in_ok-complete.ensures.goes c.rest.ensures
