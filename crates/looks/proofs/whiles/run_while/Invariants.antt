-- The invariant: the run from here on, after what is stored, is the whole run. Assumes nothing.
use Rattle.looks.proofs.Running.{Runs}
use Rattle.looks.specs.Buffer.{nums_of, view_of}
use Rattle.looks.specs.While.{tokens_left}
use Rattle.looks.proofs.whiles.run_while.Given as goal

abbrev pub invariant-loop-state : goal.invariant-loop-state
invariant-loop-state l = Runs l.list l.kind (view_of l.initial.state) l.initial.out l.out (view_of l.state) l.at

abbrev pub decreases-loop-state : goal.decreases-loop-state
decreases-loop-state l = tokens_left l.list (nums_of l.state.nums)
