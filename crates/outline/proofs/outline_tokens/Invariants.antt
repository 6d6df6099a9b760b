use Prim.Native.Nat.{◌-◌}
use lib.ListN.{length}
use Rattle.outline.proofs.Shading.{Shaded}
use Rattle.outline.proofs.outline_tokens.Given as goal

abbrev pub invariant-loop-token : goal.invariant-loop-token
invariant-loop-token l = Shaded l.reading l.s l.initial.out l.out l.at

abbrev pub decreases-loop-token : goal.decreases-loop-token
decreases-loop-token l = length l.s - l.at
