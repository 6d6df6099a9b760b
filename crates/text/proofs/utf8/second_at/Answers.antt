use mathlib.Core.Path.{sym, ◌∙◌}
use Rattle.text.proofs.Decode.{second_none, second_one, step_none, step_one}
use Rattle.text.proofs.utf8.second_at.Goals as goal

pub returns-in_default : goal.returns-in_default
returns-in_default c = second_none _ _ (step_none _ _ (sym c.scalar_at.ensures ∙ c.in_default.is))

pub returns : goal.returns
returns c = c.scalar_at-2.ensures ∙ second_one c.args.s.now c.args.at _ _ (step_one _ _ _ _ (sym c.scalar_at.ensures ∙ c.in-Some.is))
