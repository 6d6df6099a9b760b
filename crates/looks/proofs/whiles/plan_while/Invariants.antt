-- The invariant: the numbers are those of a real state, and its plan is the plan from the start. Assumes nothing.
use Rattle.looks.proofs.Planning.{Turns}
use Rattle.looks.specs.While.{Plannable, tokens_left}
use Rattle.looks.proofs.whiles.plan_while.Given as goal

abbrev pub invariant-loop-front : goal.invariant-loop-front
invariant-loop-front l = Plannable l.list l.m l.state.held l.state.counts × Turns l.list l.kind l.state.held l.state.counts l.initial.m l.m l.count

abbrev pub decreases-loop-front : goal.decreases-loop-front
decreases-loop-front l = tokens_left l.list l.m
