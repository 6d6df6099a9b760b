use Prim.Native.Nat.{◌-◌}
use lib.ListN.{length}
use Rattle.unescape.proofs.Passes.{Writing}
use Rattle.unescape.proofs.body.write_items.Given as goal

abbrev pub invariant-loop-form : goal.invariant-loop-form
invariant-loop-form l = Writing l.form l.s l.initial.out l.out l.at l.n

abbrev pub decreases-loop-form : goal.decreases-loop-form
decreases-loop-form l = length l.s - l.at
