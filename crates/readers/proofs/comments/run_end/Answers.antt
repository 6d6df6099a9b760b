use Rattle.std.proofs.Common.{refl, sym, ap, ◌∙◌, arith}
use Rattle.readers.proofs.Scans.{goes_before, goes_end, goes_on}
use Rattle.readers.proofs.Steps.{run_no, run_yes}
use Rattle.readers.specs.Readers.{run, run_step}
use Rattle.readers.specs.Scan.{Stop}
use Rattle.text.proofs.Decode.{step_none, step_one}
use Rattle.text.specs.Utf8.{rest}
use Rattle.readers.proofs.comments.run_end.Goals as goal

pub loop-value-init : goal.loop-value-init
loop-value-init g c = λ f t. (c.args.at, refl)

pub returns-in_default : goal.returns-in_default
unfolding run
returns-in_default g c = λ f t. ap (λ (o : Stop (Unit {0})). o.place) (goes_end (run_step f) _ _ _ _ (c.loop-value.invariant f t) (step_none c.args.s.now c.loop-value.p (sym c.scalar_at.ensures ∙ c.in_default.is)))

pub returns-then-not-passes : goal.returns-then-not-passes
unfolding run
returns-then-not-passes g c = λ f t. ap (λ (o : Stop (Unit {0})). o.place) (goes_before (run_step f) _ _ _ _ (c.loop-value.invariant f t) _ _ (step_one c.args.s.now c.loop-value.p c.in-Some.field-0.value c.in-Some.field-0.next (sym c.scalar_at.ensures ∙ c.in-Some.is)) tt (run_no f c.in-Some.field-0.value (rest c.args.s.now c.in-Some.field-0.next) (sym (t _ _ c.passes.ensures) ∙ c.if-not-passes.true)))

pub loop-value-smaller : goal.loop-value-smaller
loop-value-smaller g c = let t = step_one c.args.s.now c.loop-value.p c.in-Some.field-0.value c.in-Some.field-0.next (sym c.scalar_at.ensures ∙ c.in-Some.is) in omega arith

pub loop-value-preserved : goal.loop-value-preserved
loop-value-preserved g c = λ f t. goes_on (run_step f) _ _ _ _ (c.loop-value.invariant f t) _ _ (step_one c.args.s.now c.loop-value.p c.in-Some.field-0.value c.in-Some.field-0.next (sym c.scalar_at.ensures ∙ c.in-Some.is)) tt (run_yes f c.in-Some.field-0.value (rest c.args.s.now c.in-Some.field-0.next) (sym (t _ _ c.passes.ensures) ∙ c.if-not-passes.false))
