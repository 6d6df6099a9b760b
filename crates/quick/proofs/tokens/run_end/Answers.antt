use mathlib.Core.Path.{refl, sym, ap, ◌∙◌}
use native.Mathlib.Omega.{arith}
use lib.ListN.{length}
use Rattle.laws.proofs.Cases.{split_le}
use Rattle.quick.proofs.Passes.{pass_end, pass_next, pass_stop}
use Rattle.quick.proofs.tokens.run_end.Goals as goal

pub loop-p-init : goal.loop-p-init
loop-p-init g c = λ f t. refl

pub returns-then-not-passes : goal.returns-then-not-passes
returns-then-not-passes g c = λ f t. omega (arith, ap length (pass_stop f c.args.s.now c.loop-p.p c.loop-p-test.true (sym (t _ _ c.passes.ensures) ∙ c.if-not-passes.true)), c.loop-p.invariant f t)

pub loop-p-preserved : goal.loop-p-preserved
loop-p-preserved g c = λ f t. omega (arith, ap length (pass_next f c.args.s.now c.loop-p.p c.loop-p-test.true (sym (t _ _ c.passes.ensures) ∙ c.if-not-passes.false)), c.loop-p.invariant f t)

pub returns : goal.returns
returns g c = λ f t.
    split_le c.args.at (length c.args.s.now)
    (λ l. omega (arith, c.max.ensures, c.loop-p.auto.p-end l, ap length (pass_end f c.args.s.now c.loop-p.p c.loop-p-test.false), c.loop-p.invariant f t))
    (λ l. omega (arith, c.max.ensures, ap length (pass_end f c.args.s.now c.args.at (omega arith))))
