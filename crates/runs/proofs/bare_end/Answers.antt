use mathlib.Core.Path.{refl, ap}
use native.Mathlib.Omega.{arith}
use lib.ListN.{length}
use Rattle.laws.proofs.Cases.{split_le}
use Rattle.runs.proofs.Runs.{bare_end, bare_next, bare_stop}
use Rattle.runs.proofs.bare_end.Goals as goal

pub loop-p-init : goal.loop-p-init
loop-p-init c = refl

pub returns-then-s-p-eq92 : goal.returns-then-s-p-eq92
returns-then-s-p-eq92 c = omega (arith, ap length (bare_stop c.args.s.now c.loop-p.p c.loop-p-test.true c.if-s-p-eq92.true), c.loop-p.invariant)

pub loop-p-preserved : goal.loop-p-preserved
loop-p-preserved c = omega (arith, ap length (bare_next c.args.s.now c.loop-p.p c.loop-p-test.true c.if-s-p-eq92.false), c.loop-p.invariant)

pub returns : goal.returns
returns c =
    split_le c.args.at (length c.args.s.now) (λ l. omega (arith, c.loop-p.auto.p-end l, ap length (bare_end c.args.s.now c.loop-p.p c.loop-p-test.false), c.loop-p.invariant))
    (λ l. omega (arith, ap length (bare_end c.args.s.now c.args.at (omega arith))))
