-- The invariant: what is left to gather is the same. Assumes nothing.
use Prim.Native.Nat.{◌-◌}
use mathlib.Core.Path.{◌≡◌}
use Rattle.looks.specs.Buffer.{Gatherable, gathers, nums_of, view_of}
use Rattle.looks.proofs.fill.gathers_at.Given as goal

abbrev pub invariant-loop : goal.invariant-loop
invariant-loop l = Gatherable l.list (l.times - l.counter) (nums_of l.state.nums) × (gathers l.list (l.times - l.counter) (view_of l.state) ≡ gathers l.list l.times (view_of l.initial.state))
