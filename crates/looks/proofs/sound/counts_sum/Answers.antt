use native.Mathlib.Omega.{arith}
use Rattle.looks.proofs.Sounds.{sum_end, sum_more}
use Rattle.looks.proofs.sound.counts_sum.Goals as goal

pub loop-i-preserved : goal.loop-i-preserved
loop-i-preserved c = (omega (arith, c.wide-sum.ensures), let e = c.loop-i.invariant.1 in let m = sum_more c.args.count c.args.at c.loop-i.i c.loop-i-test.true c.args.counts.now in omega (arith, c.wide-sum.ensures))

pub returns : goal.returns
returns c =
    let e = c.loop-i.invariant.1 in
    let m = sum_end c.args.count c.args.at c.loop-i.i c.loop-i-test.false c.args.counts.now in
    omega arith
