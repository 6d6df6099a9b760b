-- The invariant: what is left, written after what is stored, gives the whole. Assumes nothing.
use Rattle.looks.proofs.Stores.{Puts}
use Rattle.looks.proofs.emit.put_waiting.Given as goal

abbrev pub invariant-loop-i : goal.invariant-loop-i
invariant-loop-i l = Puts l.list l.state.waiting l.initial.out l.out l.«from» l.count l.at l.i
