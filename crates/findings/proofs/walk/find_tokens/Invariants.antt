-- The invariant: what is left to find gives the answer, and written after what is stored it gives the store. Assumes nothing.
use Prim.Native.Nat.{◌-◌}
use lib.ListN.{length}
use Rattle.findings.proofs.Turns.{Walked}
use Rattle.findings.proofs.walk.find_tokens.Given as goal

abbrev pub invariant-loop-at : goal.invariant-loop-at
invariant-loop-at l = Walked l.reading l.s l.fn.store l.fn.first.words l.fn.first.count l.store l.noted.words l.noted.count l.at l.under.place l.under.read

abbrev pub decreases-loop-at : goal.decreases-loop-at
decreases-loop-at l = length l.s - l.at
