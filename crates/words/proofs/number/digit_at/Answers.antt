use mathlib.Core.Path.{sym, ap, ◌∙◌}
use Rattle.readers.specs.Numbers.{begins_digit}
use Rattle.text.proofs.Decode.{step_none, step_one}
use Rattle.words.proofs.number.digit_at.Goals as goal

pub returns-in_default : goal.returns-in_default
returns-in_default c = sym (ap begins_digit (step_none c.args.s.now c.args.at (sym c.scalar_at.ensures ∙ c.in_default.is)))

pub returns : goal.returns
returns c = c.is_ascii_digit.ensures ∙ sym (ap begins_digit (step_one c.args.s.now c.args.at _ _ (sym c.scalar_at.ensures ∙ c.in-Some.is)).here)
