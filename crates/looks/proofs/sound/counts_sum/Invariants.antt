use Prim.Native.Nat.{◌+◌, ◌-◌, ◌*◌, ◌≤◌}
use mathlib.Core.Path.{◌≡◌}
use Rattle.looks.specs.Sound.{count_sum}
use Rattle.looks.proofs.sound.counts_sum.Given as goal

abbrev pub invariant-loop-i : goal.invariant-loop-i
invariant-loop-i l = (l.sum ≤ l.i * 4294967295) × (l.sum + count_sum l.counts (l.count - l.i) (l.at + l.i) ≡ count_sum l.counts l.count l.at)
