use mathlib.Core.Path.{sym, ◌∙◌}
use Rattle.readers.proofs.Ends.{pass_none, pass_step}
use Rattle.text.proofs.Decode.{step_none, step_one}
use Rattle.readers.proofs.comments.pass_one.Goals as goal

pub returns-in_default : goal.returns-in_default
returns-in_default c = pass_none _ _ (step_none c.args.s.now c.args.at (sym c.scalar_at.ensures ∙ c.in_default.is))

pub returns : goal.returns
returns c = pass_step _ _ _ _ (step_one c.args.s.now c.args.at _ _ (sym c.scalar_at.ensures ∙ c.in-Some.is))
