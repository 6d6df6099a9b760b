use Prim.Native.Nat.{◌+◌}
use mathlib.Core.Path.{◌≡◌}
use lib.ListN.{drop, length}
use Rattle.runs.specs.Runs.{ascii_of, bare_of}
use Rattle.runs.proofs.low_end.Given as goal

abbrev pub invariant-loop-p : goal.invariant-loop-p
invariant-loop-p l = (l.end ≡ l.p + length (bare_of (drop l.p l.s))) × (l.p + length (ascii_of (bare_of (drop l.p l.s))) ≡ l.at + length (ascii_of (bare_of (drop l.at l.s))))
