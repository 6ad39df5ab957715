use Rattle.std.proofs.Common.{sym, subst, arith, rules}
use Rattle.nodes.specs.Image.{seen_in}
use Rattle.nodes.specs.Reading.{HandsOut}
use Rattle.nodes.proofs.Cuts.{length_seen}
use Rattle.nodes.proofs.Reading.{step, stop, none_left}
use Rattle.nodes.proofs.reader.ReaderIterator.next.Goals as goal

pub returns-in_err-standing-clause-steps : goal.returns-in_err-standing-clause-steps
returns-in_err-standing-clause-steps c =
    let r = c.args.self.now in
    subst (λ o. HandsOut r o r) (sym c.from_residual.ensures) (none_left r (stop (seen_in r.image) r.at c.tail.ensures c.in_err-standing.ensures))

pub overflow_add-self : goal.overflow_add-self
overflow_add-self c =
    let r = c.args.self.now in
    let fits = (step (seen_in r.image) r.at c.tail.ensures c.in_ok-standing.ensures).fits in
    let long = length_seen r.image.readable.now 0 r.image.bytes.now in
    search rules

pub invariant_of-self : goal.invariant_of-self
invariant_of-self c =
    let r = c.args.self.now in
    record { within = omega (arith, (step (seen_in r.image) r.at c.tail.ensures c.in_ok-standing.ensures).fits, length_seen r.image.readable.now 0 r.image.bytes.now) }

pub returns : goal.returns
returns c =
    let r = c.args.self.now in
    let taken = step (seen_in r.image) r.at c.tail.ensures c.in_ok-standing.ensures in
    let some = taken.some in
    let fits = taken.fits in
    let long = length_seen r.image.readable.now 0 r.image.bytes.now in
    record {
      steps = record { yields = taken.finds r.block; first = taken.first r.block; others = taken.others; block = search rules; image = search rules };
      goes = record { on = λ f. (tt, tt, omega arith); keeps = tt; rests = λ f. tt };
    }
