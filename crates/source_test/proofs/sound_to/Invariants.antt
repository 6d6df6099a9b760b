use Prim.Native.Nat.{◌-◌}
use lib.ListN.{length}
use Rattle.source_test.proofs.Blocks.{Walked}
use Rattle.source_test.proofs.sound_to.Given as goal

abbrev pub invariant-loop-at : goal.invariant-loop-at
invariant-loop-at l = Walked l.s 0 l.at

abbrev pub decreases-loop-at : goal.decreases-loop-at
decreases-loop-at l = length l.s - l.at
