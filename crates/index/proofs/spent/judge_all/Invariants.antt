use Rattle.index.proofs.Rising.{Risen}
use Rattle.index.proofs.spent.judge_all.Given as goal

abbrev pub invariant-loop-i : goal.invariant-loop-i
invariant-loop-i l = Risen l.initial.blocks l.blocks l.i
