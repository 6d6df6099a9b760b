use Prim.Native.Nat.{◌+◌, ◌-◌}
use mathlib.Core.Path.{◌≡◌}
use Rattle.looks.specs.Buffer.{queued}
use Rattle.looks.proofs.fill.queue.Given as goal

abbrev pub invariant-loop-i : goal.invariant-loop-i
invariant-loop-i l = queued (l.count - l.i) l.waiting (l.at + l.i) (l.«from» + l.i) ≡ queued l.count l.initial.waiting l.at l.«from»
