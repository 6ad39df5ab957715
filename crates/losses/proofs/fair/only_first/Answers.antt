use Rattle.std.proofs.Common.{ap, ◌∙◌}
use Rattle.nodes.specs.Reading.{rest}
use Rattle.losses.proofs.Lockstep.{begun, none_met, too_many, turn_of}
use Rattle.losses.proofs.fair.only_first.Goals as goal

pub loop-met-init : goal.loop-met-init
loop-met-init c = record {
  can_next = tt;
  is_finite = tt;
  judging =
      begun c.args.want c.args.got c.new-before.result c.into_iter-met-iterator.result c.requires c.new-before.ensures.all
      (ap rest c.into_iter-met-iterator.ensures.into_iter_gives ∙ c.new-met-items.ensures.all);
}

pub returns-in_default : goal.returns-in_default
returns-in_default c =
    too_many c.args.want c.args.got c.loop-met.invariant.judging c.in-Some.ensures.steps.yields c.loop-met.before.block c.in_default.ensures.steps.first

pub are_same-requires : goal.are_same-requires
are_same-requires c =
    let t =
    turn_of c.args.want c.args.got c.loop-met.before.block c.loop-met.invariant.judging c.in-Some.ensures.steps.yields c.in-Some-next.ensures.steps.first
    c.in-Some-next.ensures.steps.others c.counted_of.ensures in
    t.within

pub returns-then-not-are_same : goal.returns-then-not-are_same
returns-then-not-are_same c =
    let t =
    turn_of c.args.want c.args.got c.loop-met.before.block c.loop-met.invariant.judging c.in-Some.ensures.steps.yields c.in-Some-next.ensures.steps.first
    c.in-Some-next.ensures.steps.others c.counted_of.ensures in
    t.stop c.if-not-are_same.ensures

pub loop-met-preserved : goal.loop-met-preserved
loop-met-preserved c =
    let t =
    turn_of c.args.want c.args.got c.loop-met.before.block c.loop-met.invariant.judging c.in-Some.ensures.steps.yields c.in-Some-next.ensures.steps.first
    c.in-Some-next.ensures.steps.others c.counted_of.ensures in
    record { can_next = tt; is_finite = tt; judging = t.again c.if-not-are_same.ensures }

pub returns : goal.returns
returns c = none_met c.args.want c.args.got c.loop-met.invariant.judging c.in-None.ensures.steps.yields.0
