use Prim.Native.Nat.{◌-◌}
use mathlib.Core.Path.{◌≡◌}
use lib.ListN.{length}
use Rattle.findings.specs.Findings.{holds_at}
use Rattle.findings.proofs.walk.holds.Given as goal

abbrev pub invariant-loop-p : goal.invariant-loop-p
invariant-loop-p l = holds_at l.reading l.s l.p l.to ≡ holds_at l.reading l.s l.from l.to

abbrev pub decreases-loop-p : goal.decreases-loop-p
decreases-loop-p l = length l.s - l.p
