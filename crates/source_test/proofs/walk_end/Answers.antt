use mathlib.Core.Path.{◌∙◌}
use native.Mathlib.Omega.{arith}
use Rattle.source_test.proofs.Blocks.{walked_bad, walked_past, walked_start, walked_step}
use Rattle.text.proofs.Decode.{step_ascii, wide_bytes, wide_none, wide_one}
use Rattle.source_test.proofs.walk_end.Goals as goal

pub loop-p-init : goal.loop-p-init
loop-p-init c = walked_start _ _ (omega arith)

pub loop-p-preserved-then-a-le127 : goal.loop-p-preserved-then-a-le127
loop-p-preserved-then-a-le127 c = walked_step _ _ _ _ _ c.loop-p.invariant (step_ascii c.args.s.now c.loop-p.p (omega (arith, c.loop-p-test.true)) c.if-a-le127.true)

pub returns-in_default : goal.returns-in_default
returns-in_default c = walked_bad _ _ _ c.loop-p.invariant (wide_none c.args.s.now c.loop-p.p (omega (arith, c.loop-p-test.true)) c.if-a-le127.false c.wide.result (c.wide.ensures ∙ wide_bytes _ c.byte_at.ensures c.byte_at-else-a-le127.ensures c.byte_at-else-a-le127-2.ensures) c.in_default.is)

pub overflow_add-p-else-a-le127-4 : goal.overflow_add-p-else-a-le127-4
overflow_add-p-else-a-le127-4 c = omega (arith, (wide_one c.args.s.now c.loop-p.p (omega (arith, c.loop-p-test.true)) c.if-a-le127.false c.wide.result (c.wide.ensures ∙ wide_bytes _ c.byte_at.ensures c.byte_at-else-a-le127.ensures c.byte_at-else-a-le127-2.ensures) _ c.in-Some.is c.step_of-p.result c.step_of-p.ensures).room)

pub loop-p-smaller : goal.loop-p-smaller
loop-p-smaller c = let t = (wide_one c.args.s.now c.loop-p.p (omega (arith, c.loop-p-test.true)) c.if-a-le127.false c.wide.result (c.wide.ensures ∙ wide_bytes _ c.byte_at.ensures c.byte_at-else-a-le127.ensures c.byte_at-else-a-le127-2.ensures) _ c.in-Some.is c.step_of-p.result c.step_of-p.ensures) in omega arith

pub loop-p-preserved : goal.loop-p-preserved
loop-p-preserved c = walked_step _ _ _ _ _ c.loop-p.invariant (wide_one c.args.s.now c.loop-p.p (omega (arith, c.loop-p-test.true)) c.if-a-le127.false c.wide.result (c.wide.ensures ∙ wide_bytes _ c.byte_at.ensures c.byte_at-else-a-le127.ensures c.byte_at-else-a-le127-2.ensures) _ c.in-Some.is c.step_of-p.result c.step_of-p.ensures)

pub returns : goal.returns
returns c = walked_past _ _ _ c.loop-p.invariant (omega (arith, c.loop-p-test.false))
