use Prim.Native.Nat.{◌-◌}
use mathlib.Core.Bool.{false}
use lib.ListN.{length}
use Rattle.readers.proofs.Scans.{Goes}
use Rattle.readers.specs.Readers.{str_step, text}
use Rattle.readers.specs.Scan.{scan}
use Rattle.text.specs.Utf8.{rest, width}
use Rattle.strings.proofs.next_str.Given as goal

abbrev pub invariant-loop-value : goal.invariant-loop-value
invariant-loop-value l = Goes str_step (text l.escaped) l.s l.p (scan str_step width (text false) l.at (rest l.s l.at) l.at)

abbrev pub decreases-loop-value : goal.decreases-loop-value
decreases-loop-value l = length l.s - l.p
