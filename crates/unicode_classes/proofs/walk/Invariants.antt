-- The loop counts no more members than it has passed numbers; what it prints is outside its promise. Assumes nothing.
use Rattle.std.proofs.Common.{◌≤◌}
use Rattle.unicode_classes.proofs.walk.Given as goal

abbrev pub invariant-loop-v : goal.invariant-loop-v
invariant-loop-v g l = (l.count ≤ l.v) × (l.count ≤ l.high)
