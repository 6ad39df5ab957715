use Rattle.nodes.specs.Reading.{rest, to_find}
use Rattle.losses.proofs.Lockstep.{Judging}
use Rattle.losses.proofs.fair.only_first.Given as goal

-- the items still to come decide, and what counts of them can be compared
abbrev pub invariant-loop-met : goal.invariant-loop-met
invariant-loop-met l = record {
  can_next : (goal.iterator-loop-met).can_next l._met-iterator;
  is_finite : (goal.iterator-loop-met).is_finite l._met-iterator;
  judging : Judging l.want l.got (rest l.before) (to_find l._met-iterator);
}
