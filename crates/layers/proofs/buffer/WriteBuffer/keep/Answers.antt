use Rattle.std.proofs.Common.{rules, ◌∙◌, arith}
use Rattle.layers.specs.Sanity.{sound_of}
use Rattle.layers.proofs.Buffers.{kept}
use Rattle.layers.proofs.Put.{put_full}
use Rattle.layers.proofs.Told.{tells_nothing}
use Rattle.layers.proofs.buffer.WriteBuffer.keep.Goals as goal

pub returns-then-is_empty : goal.returns-then-is_empty
returns-then-is_empty g c = tells_nothing (sound_of g.met.F.Flash.sane c.args.self.now) _ _ _ c.requires.accepted c.requires.near (search rules)

pub invariant_of-self : goal.invariant_of-self
invariant_of-self g c =
    let w = c.args.self.now in
    let k =
    kept g.met.F.Flash.sane w c.args.run.at c.args.run.bytes.now c.requires.accepted c.requires.near c.requires.short (search rules) c.copy_from_slice.new.self c.copy_from_slice.ensures.after
    _ c.reach.ensures.value _ c.begin-self.ensures in
    record {
      some = w.some;
      small = w.small;
      words = w.words;
      pages = w.pages;
      batches = w.batches;
      full = put_full w.batch w.held _ _ (omega (arith, c.requires.short)) (omega (arith, w.small, w.full)) _ c.copy_from_slice.ensures.after ∙ w.full;
      holding = k.0;
    }

pub returns : goal.returns
returns g c =
    let k =
    kept g.met.F.Flash.sane c.args.self.now c.args.run.at c.args.run.bytes.now c.requires.accepted c.requires.near c.requires.short (search rules) c.copy_from_slice.new.self c.copy_from_slice.ensures.after
    _ c.reach.ensures.value _ c.begin-self.ensures in
    k.1
