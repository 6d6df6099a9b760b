use Prim.Native.Nat.{◌-◌}
use mathlib.Core.Bool.{true, false}
use lib.ListN.{length}
use Rattle.readers.proofs.Scans.{Goes}
use Rattle.readers.specs.Readers.{char_step, letters}
use Rattle.readers.specs.Scan.{scan}
use Rattle.text.specs.Utf8.{rest, width}
use Rattle.chars.proofs.next_char_or_label.Given as goal

abbrev pub invariant-loop-value : goal.invariant-loop-value
invariant-loop-value l = Goes char_step (letters l.label l.some) l.s l.p (scan char_step width (letters true false) l.at (rest l.s l.at) l.at)

abbrev pub decreases-loop-value : goal.decreases-loop-value
decreases-loop-value l = length l.s - l.p
