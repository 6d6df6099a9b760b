use mathlib.Core.Path.{sym, ◌∙◌}
use Rattle.readers.proofs.Taken.{taken_none, taken_step}
use Rattle.text.proofs.Decode.{step_none, step_one}
use Rattle.readers.proofs.escape.escaped_end.Goals as goal

pub returns-in_default : goal.returns-in_default
returns-in_default c = taken_none c.args.slash c.args.s.now c.args.at (step_none c.args.s.now c.args.at (sym c.scalar_at.ensures ∙ c.in_default.is))

pub returns : goal.returns
returns c = taken_step c.args.slash c.args.s.now c.args.at _ _ (step_one c.args.s.now c.args.at _ _ (sym c.scalar_at.ensures ∙ c.in-Some.is))
