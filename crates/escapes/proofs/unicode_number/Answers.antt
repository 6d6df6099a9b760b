use mathlib.Core.Path.{sym, ◌∙◌}
use Rattle.escapes.proofs.Escapes.{unicode_end, unicode_no, unicode_open}
use Rattle.text.proofs.Decode.{step_none, step_one}
use Rattle.escapes.proofs.unicode_number.Goals as goal

pub returns-in_default : goal.returns-in_default
returns-in_default c = unicode_end _ _ (step_none _ _ (sym c.scalar_at.ensures ∙ c.in_default.is))

pub returns-then-value-ne-OPEN_BRACE : goal.returns-then-value-ne-OPEN_BRACE
returns-then-value-ne-OPEN_BRACE c = unicode_no _ _ _ _ (step_one _ _ _ _ (sym c.scalar_at.ensures ∙ c.in-Some.is)) c.if-value-ne-OPEN_BRACE.true

pub returns : goal.returns
returns c = c.unicode_digits.ensures ∙ unicode_open _ _ _ _ (step_one _ _ _ _ (sym c.scalar_at.ensures ∙ c.in-Some.is)) c.if-value-ne-OPEN_BRACE.false
