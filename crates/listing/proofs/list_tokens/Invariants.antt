-- The invariant: what is left to list gives the answer, and written after what is stored it gives the store. Assumes nothing.
use Prim.Native.Nat.{◌-◌}
use lib.ListN.{length}
use Rattle.listing.proofs.Stores.{Head}
use Rattle.listing.proofs.list_tokens.Given as goal

abbrev pub invariant-loop-end : goal.invariant-loop-end
invariant-loop-end l = Head l.reading l.s l.initial.store l.store l.at l.n l.count

abbrev pub decreases-loop-end : goal.decreases-loop-end
decreases-loop-end l = length l.s - l.at
