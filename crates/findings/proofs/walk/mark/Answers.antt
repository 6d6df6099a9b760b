use mathlib.Core.Path.{sym, ap, ◌∙◌}
use borrow.Author.Tests.{eq-eqb, ne_eqb}
use Rattle.findings.specs.Findings.{mark_of}
use Rattle.text.proofs.Decode.{step_none, step_one}
use Rattle.findings.proofs.walk.mark.Goals as goal

pub returns-in_default : goal.returns-in_default
returns-in_default c = sym (ap mark_of (step_none c.args.s.now 0 (sym c.scalar_at.ensures ∙ c.in_default.is)))

pub returns-then-value-ne65279 : goal.returns-then-value-ne65279
returns-then-value-ne65279 c = rw (step_one c.args.s.now 0 _ _ (sym c.scalar_at.ensures ∙ c.in-Some.is)).here (sym (simp (ne_eqb _ _ c.if-value-ne65279.true)))

pub returns : goal.returns
returns c = c.plain.ensures ∙ rw (step_one c.args.s.now 0 _ _ (sym c.scalar_at.ensures ∙ c.in-Some.is)).here (sym (simp (eq-eqb _ _ c.if-value-ne65279.false)))
