use native.Mathlib.Omega.{arith}
use Rattle.source_test.proofs.Blocks.{len_none, len_some, walked_bad, walked_past, walked_start, walked_step}
use Rattle.text.proofs.Decode.{step_ascii}
use Rattle.source_test.proofs.walk.Goals as goal

pub loop-p-init : goal.loop-p-init
loop-p-init c = walked_start _ _ (omega arith)

pub loop-p-preserved-then-a-le127 : goal.loop-p-preserved-then-a-le127
loop-p-preserved-then-a-le127 c = walked_step _ _ _ _ _ c.loop-p.invariant (step_ascii c.args.s.now c.loop-p.p (omega (arith, c.loop-p-test.true)) c.if-a-le127.true)

pub returns-in_default : goal.returns-in_default
returns-in_default c = walked_bad _ _ _ c.loop-p.invariant (len_none c.args.s.now c.loop-p.p (omega (arith, c.loop-p-test.true)) c.len_at.result c.len_at.ensures c.in_default.is)

pub overflow_add-p-else-a-le127 : goal.overflow_add-p-else-a-le127
overflow_add-p-else-a-le127 c = omega (arith, (len_some c.args.s.now c.loop-p.p (omega (arith, c.loop-p-test.true)) c.len_at.result c.len_at.ensures _ c.in-Some.is).1.room)

pub loop-p-smaller : goal.loop-p-smaller
loop-p-smaller c = let t = (len_some c.args.s.now c.loop-p.p (omega (arith, c.loop-p-test.true)) c.len_at.result c.len_at.ensures _ c.in-Some.is).1 in omega arith

pub loop-p-preserved : goal.loop-p-preserved
loop-p-preserved c = walked_step _ _ _ _ _ c.loop-p.invariant (len_some c.args.s.now c.loop-p.p (omega (arith, c.loop-p-test.true)) c.len_at.result c.len_at.ensures _ c.in-Some.is).1

pub returns : goal.returns
returns c = walked_past _ _ _ c.loop-p.invariant (omega (arith, c.loop-p-test.false))
