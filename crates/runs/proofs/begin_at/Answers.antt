use mathlib.Core.Path.{sym, ◌∙◌}
use Rattle.runs.proofs.Begins.{begins_end, begins_item}
use Rattle.text.proofs.Decode.{step_none, step_one}
use Rattle.runs.proofs.begin_at.Goals as goal

pub returns-in_default : goal.returns-in_default
returns-in_default c = begins_end _ _ _ (step_none _ _ (sym c.scalar_at.ensures ∙ c.in_default.is))

pub returns : goal.returns
returns c = c.item_at.ensures ∙ begins_item _ _ _ _ _ (step_one _ _ _ _ (sym c.scalar_at.ensures ∙ c.in-Some.is))
