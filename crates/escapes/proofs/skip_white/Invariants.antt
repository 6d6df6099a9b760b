use Prim.Native.Nat.{◌-◌}
use mathlib.Core.Path.{◌≡◌}
use lib.ListN.{length}
use Rattle.escapes.specs.Escapes.{skip_white}
use Rattle.text.specs.Utf8.{rest}
use Rattle.escapes.proofs.skip_white.Given as goal

abbrev pub invariant-loop-value : goal.invariant-loop-value
invariant-loop-value l = skip_white (rest l.s l.p) l.p ≡ skip_white (rest l.s l.at) l.at

abbrev pub decreases-loop-value : goal.decreases-loop-value
decreases-loop-value l = length l.s - l.p
