-- The invariant: what is left of the tokens, after what is stored, gives the whole; the rings stay. Assumes nothing.
use Prim.Native.Nat.{◌-◌}
use mathlib.Core.Path.{◌≡◌}
use Rattle.looks.proofs.Advances.{Advancing}
use Rattle.looks.specs.Buffer.{nums_of, view_of}
use Rattle.looks.specs.Calls.{with_nums}
use Rattle.looks.proofs.emits.emit_held.Given as goal

abbrev pub invariant-loop : goal.invariant-loop
invariant-loop l = Advancing l.list l.n (view_of l.initial.state) l.initial.out l.out (nums_of l.state.nums) l.at (l.n - l.counter) × (view_of l.state ≡ with_nums (nums_of l.state.nums) (view_of l.initial.state))
