use Rattle.std.proofs.Common.{◌-◌, ◌%◌, length, arith, length-drop}
use Rattle.std.proofs.lemmas.List.{length-take-le}
use Rattle.std.proofs.lemmas.Result.{err_from_is_err_and}
use Rattle.flash.proofs.Batches.{whole_mod, tail_fits}
use Rattle.layers.specs.Sanity.{sound_of}
use Rattle.layers.proofs.Buffers.{first_accepted, rest_accepted, in_two, in_first}
use Rattle.layers.proofs.Words.{whole_words}
use Rattle.layers.proofs.buffer.WriteBuffer.rest.Goals as goal

pub direct-requires-clause-accepted : goal.direct-requires-clause-accepted
direct-requires-clause-accepted g c =
    first_accepted g.met.F.Flash.sane c.args.self.now _ _ c.requires.accepted (omega arith) (whole_words (sound_of g.met.F.Flash.sane c.args.self.now) _ _ _ c.requires.accepted) c.split_at.ensures.first

pub direct-requires-clause-whole : goal.direct-requires-clause-whole
direct-requires-clause-whole g c =
    let e = c.split_at.ensures.first in
    let n = length c.args.run.bytes.now in
    let batch = c.args.self.now.batch in
    (rw e.0 c.requires.whole, rw (e.1, length-take-le (n - n % batch) c.args.run.bytes.now (omega arith)) (whole_mod n batch))

pub returns-in_err-direct : goal.returns-in_err-direct
returns-in_err-direct g c =
    let x = err_from_is_err_and c.from_residual.result c.from_residual.ensures.1 in
    rw (x.1, x.2)
    (in_first g.met.F.Flash.sane c.args.self.now _ _ c.requires.accepted (omega arith) (whole_words (sound_of g.met.F.Flash.sane c.args.self.now) _ _ _ c.requires.accepted) c.split_at.ensures.first c.in_err-direct.ensures.goes)

pub keep-requires-clause-accepted : goal.keep-requires-clause-accepted
keep-requires-clause-accepted g c =
    rest_accepted g.met.F.Flash.sane c.args.self.now _ _ c.requires.accepted (omega arith) (whole_words (sound_of g.met.F.Flash.sane c.args.self.now) _ _ _ c.requires.accepted) c.split_at.ensures.first c.split_at.ensures.rest c.in_ok-direct.ensures.goes

pub keep-requires-clause-short : goal.keep-requires-clause-short
keep-requires-clause-short g c =
    let w = c.args.self.now in
    let e = c.split_at.ensures.rest in
    rw (c.in_ok-direct.ensures.batch, e.0, e.1, length-drop) (tail_fits c.args.run.at.offset (length c.args.run.bytes.now) w.batch w.some c.requires.whole)

pub returns : goal.returns
returns g c =
    in_two g.met.F.Flash.sane c.args.self.now _ _ c.requires.accepted (omega arith) (whole_words (sound_of g.met.F.Flash.sane c.args.self.now) _ _ _ c.requires.accepted) c.split_at.ensures.first c.split_at.ensures.rest c.in_ok-direct.ensures.goes c.keep.ensures
