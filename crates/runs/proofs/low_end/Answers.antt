use mathlib.Core.Path.{refl, ap}
use native.Mathlib.Omega.{arith}
use lib.ListN.{drop, length}
use Rattle.runs.proofs.Runs.{bare_cons, bare_more, low_few, low_here}
use Rattle.runs.specs.Runs.{bare_of}
use Rattle.runs.proofs.low_end.Goals as goal

pub loop-p-init : goal.loop-p-init
loop-p-init c = (c.requires, refl)

pub bounds-s-p : goal.bounds-s-p
bounds-s-p c = omega (arith, (bare_more c.args.s.now c.loop-p.p (omega (arith, c.loop-p.invariant.0, c.loop-p-test.true))).0)

pub loop-p-preserved : goal.loop-p-preserved
loop-p-preserved c = (omega (arith, ap length (bare_cons c.args.s.now c.loop-p.p (omega (arith, c.loop-p.invariant.0, c.loop-p-test.true))), c.loop-p.invariant.0), omega (arith, ap length (low_here c.args.s.now c.loop-p.p (omega (arith, c.loop-p.invariant.0, c.loop-p-test.true)) (omega arith)), c.loop-p.invariant.1))

pub returns : goal.returns
returns c = omega (arith, low_few (bare_of (drop c.loop-p.p c.args.s.now)), c.loop-p.invariant.0, c.loop-p.invariant.1, c.loop-p-test.false)
