use mathlib.Core.Path.{refl, sym, ◌∙◌}
use native.Mathlib.Omega.{arith}
use Rattle.escapes.proofs.Escapes.{skip_end, skip_more, skip_stop}
use Rattle.text.proofs.Decode.{step_none, step_one}
use Rattle.escapes.proofs.skip_white.Goals as goal

pub loop-value-init : goal.loop-value-init
loop-value-init c = refl

pub returns-in_default : goal.returns-in_default
returns-in_default c = skip_end _ _ (step_none _ _ (sym c.scalar_at.ensures ∙ c.in_default.is)) ∙ c.loop-value.invariant

pub returns-then-not-is_whitespace : goal.returns-then-not-is_whitespace
returns-then-not-is_whitespace c = skip_stop _ _ _ _ (step_one _ _ _ _ (sym c.scalar_at.ensures ∙ c.in-Some.is)) (sym c.is_whitespace.ensures ∙ c.if-not-is_whitespace.true) ∙ c.loop-value.invariant

pub loop-value-smaller : goal.loop-value-smaller
loop-value-smaller c = let t = step_one _ _ _ _ (sym c.scalar_at.ensures ∙ c.in-Some.is) in omega arith

pub loop-value-preserved : goal.loop-value-preserved
loop-value-preserved c = skip_more _ _ _ _ (step_one _ _ _ _ (sym c.scalar_at.ensures ∙ c.in-Some.is)) (sym c.is_whitespace.ensures ∙ c.if-not-is_whitespace.false) ∙ c.loop-value.invariant
