use mathlib.Core.Path.{◌≡◌, sym, ap, ◌∙◌}
use native.Mathlib.Omega.{arith}
use Rattle.laws.proofs.Cases.{split_le}
use Rattle.looks.proofs.Numbers.{dark_end, dark_here, dark_white}
use Rattle.looks.specs.Numbered.{is_white}
use Rattle.looks.proofs.list.next_dark.Goals as goal

pub returns-then-not-is_white : goal.returns-then-not-is_white
returns-then-not-is_white c = sym (dark_here c.args.list.now c.loop-i.i (sym (ap is_white c.kind_at.ensures) ∙ sym c.is_white.ensures ∙ c.if-not-is_white.true)) ∙ c.loop-i.invariant

pub loop-i-preserved : goal.loop-i-preserved
loop-i-preserved c = sym (dark_white c.args.list.now c.loop-i.i (omega (arith, c.count_of-count.ensures)) (sym (ap is_white c.kind_at.ensures) ∙ sym c.is_white.ensures ∙ c.if-not-is_white.false)) ∙ c.loop-i.invariant

pub returns : goal.returns
returns c =
    let is = c.max.ensures in
    let all = c.count_of-count.ensures in
    let end = c.loop-i-test.false in
    split_le c.args.from c.count_of-count.result (λ h. let last = c.loop-i.auto.i-end h in let e : c.max.result ≡ c.loop-i.i = omega arith in e ∙ sym (dark_end c.args.list.now c.loop-i.i (omega arith)) ∙ c.loop-i.invariant) (λ h. let e : c.max.result ≡ c.args.from = omega arith in e ∙ sym (dark_end c.args.list.now c.args.from (omega arith)))
