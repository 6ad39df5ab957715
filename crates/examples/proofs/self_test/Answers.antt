use Rattle.examples.proofs.Computed.{worked}
use Rattle.examples.proofs.self_test.Goals as goal

pub returns : goal.returns
returns c = record {
  passes = rw (c.sums_to-nothing.ensures, c.sums_to-zero.ensures, c.sums_to-one.ensures, c.sums_to-top.ensures, worked.sum_of_nothing, worked.sum_of_00, worked.sum_of_01, worked.sum_of_80);
  worked = worked;
}
