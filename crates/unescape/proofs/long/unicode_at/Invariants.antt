use Rattle.unescape.proofs.Longs.{Digits}
use Rattle.unescape.proofs.long.unicode_at.Given as goal

abbrev pub invariant-loop-i : goal.invariant-loop-i
invariant-loop-i l = Digits l.s l.at l.left l.i l.x
