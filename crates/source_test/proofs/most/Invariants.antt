use Rattle.source_test.proofs.Blocks.{Low}
use Rattle.source_test.proofs.most.Given as goal

abbrev pub invariant-loop-b : goal.invariant-loop-b
invariant-loop-b l = Low l.b-items l.b-index l.m
