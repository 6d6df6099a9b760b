use Prim.Native.Nat.{◌-◌}
use mathlib.Core.Path.{◌≡◌}
use mathlib.Core.Bool.{false}
use lib.ListN.{length}
use Rattle.std.specs.Option.{is_some, unwrap_or}
use Rattle.escapes.specs.Escapes.{digits_of}
use Rattle.text.specs.Utf8.{rest}
use Rattle.escapes.proofs.unicode_digits.Given as goal

abbrev pub invariant-loop-value : goal.invariant-loop-value
invariant-loop-value l = digits_of (is_some l.x) (unwrap_or l.x 0) (rest l.s l.p) l.p ≡ digits_of false 0 (rest l.s l.at) l.at

abbrev pub decreases-loop-value : goal.decreases-loop-value
decreases-loop-value l = length l.s - l.p
