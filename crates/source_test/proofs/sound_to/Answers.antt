use mathlib.Core.Path.{◌∙◌}
use native.Mathlib.Omega.{arith}
use Rattle.source_test.proofs.Blocks.{sound_end, walked_start}
use Rattle.text.proofs.Decode.{rest_end}
use Rattle.source_test.proofs.sound_to.Goals as goal

pub loop-at-init : goal.loop-at-init
loop-at-init c = walked_start _ _ (omega arith)

pub returns-then-p-at : goal.returns-then-p-at
returns-then-p-at c = sound_end _ _ c.loop-at.invariant.same (c.pass-p.ensures.some c.if-p-at.true)

pub loop-at-smaller : goal.loop-at-smaller
loop-at-smaller c = let h = c.pass-p.ensures in omega arith

pub loop-at-preserved : goal.loop-at-preserved
loop-at-preserved c = record { on = omega arith; inside = c.pass-p.ensures.inside; same = c.pass-p.ensures.same ∙ c.loop-at.invariant.same }

pub returns : goal.returns
returns c = sound_end _ _ c.loop-at.invariant.same (rest_end _ _ c.loop-at-test.false)
