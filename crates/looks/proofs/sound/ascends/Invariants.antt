use Prim.Native.Nat.{◌+◌, ◌-◌}
use mathlib.Core.Path.{◌≡◌}
use lib.ListN.{length}
use Rattle.looks.specs.Sound.{ascends_by}
use Rattle.looks.proofs.sound.ascends.Given as goal

abbrev pub invariant-loop-i : goal.invariant-loop-i
invariant-loop-i l = ascends_by l.white l.list (length l.ring) l.ring (l.count - l.i) (l.at + l.i) l.low l.top ≡ ascends_by l.white l.list (length l.ring) l.ring l.count l.at 0 l.top
