use Prim.Native.Nat.{◌-◌}
use lib.ListN.{length}
use Rattle.source_test.proofs.Blocks.{Walked}
use Rattle.source_test.proofs.walk_end.Given as goal

abbrev pub invariant-loop-p : goal.invariant-loop-p
invariant-loop-p l = Walked l.s l.at l.p

abbrev pub decreases-loop-p : goal.decreases-loop-p
decreases-loop-p l = length l.s - l.p
