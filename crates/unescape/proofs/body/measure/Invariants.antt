use Prim.Native.Nat.{◌-◌}
use lib.ListN.{length}
use Rattle.unescape.proofs.Passes.{Measuring}
use Rattle.unescape.proofs.body.measure.Given as goal

abbrev pub invariant-loop-form : goal.invariant-loop-form
invariant-loop-form l = Measuring l.form l.s l.at l.count

abbrev pub decreases-loop-form : goal.decreases-loop-form
decreases-loop-form l = length l.s - l.at
