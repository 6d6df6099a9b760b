use mathlib.Core.Path.{◌≡◌}
use lib.Seq.{sets, slice}
use Rattle.outline.specs.Covered.{covers}
use Rattle.outline.specs.Outline.{paint}
use Rattle.outline.proofs.fill.Given as goal

abbrev pub invariant-loop-i : goal.invariant-loop-i
invariant-loop-i l = sets l.out l.i (paint (covers l.inside l.e) (slice l.i l.e l.s) l.i) ≡ sets l.fn.out l.a (paint (covers l.inside l.e) (slice l.a l.e l.s) l.a)
