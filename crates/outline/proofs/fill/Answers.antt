use mathlib.Core.Path.{refl, ap, ◌∙◌}
use mathlib.Core.Bool.{Bool}
use native.Mathlib.Omega.{arith}
use lib.ListN.{get_or}
use Rattle.laws.specs.Bools.{pick}
use Rattle.outline.proofs.Shading.{fill_none, fill_one, covers_left}
use Rattle.outline.specs.Covered.{covers}
use Rattle.outline.proofs.fill.Goals as goal

pub loop-i-init : goal.loop-i-init
loop-i-init c = refl

pub bounds-s-i : goal.bounds-s-i
bounds-s-i c = omega (arith, c.requires.0)

pub bounds-out-i : goal.bounds-out-i
bounds-out-i c = omega (arith, c.requires.1, c.loop-i.auto.out)

pub loop-i-preserved : goal.loop-i-preserved
loop-i-preserved c = fill_one (covers c.args.inside c.args.e) c.loop-i.out c.args.s.now c.loop-i.i c.args.e c.shade.result c.loop-i-test.true c.requires.0 (c.shade.ensures ∙ ap (λ (z : Bool). pick z 0x78 (get_or c.args.s.now c.loop-i.i 0)) (covers_left c.args.inside c.loop-i.i c.args.e c.loop-i-test.true)) ∙ c.loop-i.invariant

pub returns : goal.returns
returns c = fill_none (covers c.args.inside c.args.e) c.loop-i.out c.args.s.now c.loop-i.i c.args.e c.loop-i-test.false c.requires.0 ∙ c.loop-i.invariant
