-- The invariant: what is left of the tokens, after what is stored, gives the whole. Assumes nothing.
use Rattle.looks.proofs.Advances.{Filing}
use Rattle.looks.specs.Buffer.{nums_of}
use Rattle.looks.proofs.emits.put_array.Given as goal

abbrev pub invariant-loop-i : goal.invariant-loop-i
invariant-loop-i l = Filing l.list l.n (nums_of l.state.nums) l.state.held l.initial.out l.out l.i
