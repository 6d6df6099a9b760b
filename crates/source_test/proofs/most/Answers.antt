use Rattle.std.proofs.Common.{◌+◌, ◌-◌, drop, take}
use native.Mathlib.Omega.{arith}
use Rattle.source_test.proofs.Blocks.{low_block, low_next}
use Rattle.source_test.proofs.most.Goals as goal

pub loop-b-init : goal.loop-b-init
loop-b-init c = λ i h. absurd (omega arith)

pub loop-b-preserved : goal.loop-b-preserved
loop-b-preserved c = low_next (take (c.args.at + 64 - c.args.at) (drop c.args.at c.args.s.now)) c.loop-b.b-index c.loop-b.m c.max-m.result c.loop-b.invariant (omega (arith, c.max-m.ensures)) (omega (arith, c.max-m.ensures))

pub returns : goal.returns
returns c = low_block c.args.s.now c.args.at _ c.loop-b.b-index c.loop-b.m (omega arith) c.requires c.loop-b-test.false c.loop-b.invariant
