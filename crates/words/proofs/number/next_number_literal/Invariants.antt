use Prim.Native.Nat.{◌-◌}
use mathlib.Core.Bool.{true}
use lib.ListN.{length}
use Rattle.readers.proofs.Scans.{Goes}
use Rattle.readers.specs.Numbers.{first_part, number_step, unsigned}
use Rattle.readers.specs.Scan.{scan}
use Rattle.text.specs.Utf8.{rest, width}
use Rattle.words.proofs.number.next_number_literal.Given as goal

abbrev pub invariant-loop-value : goal.invariant-loop-value
invariant-loop-value l = Goes number_step (unsigned l.whole l.part) l.s l.p (scan number_step width (unsigned true (first_part l.first)) l.at (rest l.s l.at) l.at)

abbrev pub decreases-loop-value : goal.decreases-loop-value
decreases-loop-value l = length l.s - l.p
