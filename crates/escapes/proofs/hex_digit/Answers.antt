use mathlib.Core.Path.{sym, ◌∙◌}
use Rattle.escapes.proofs.Escapes.{digit_end, digit_no, digit_none, digit_some, digit_yes}
use Rattle.text.proofs.Decode.{step_none, step_one}
use Rattle.escapes.proofs.hex_digit.Goals as goal

pub returns-in_default : goal.returns-in_default
returns-in_default c = digit_end _ _ (step_none _ _ (sym c.scalar_at.ensures ∙ c.in_default.is))

pub returns-in_default-hex_value : goal.returns-in_default-hex_value
returns-in_default-hex_value c = digit_no _ _ _ _ (step_one _ _ _ _ (sym c.scalar_at.ensures ∙ c.in-Some.is)) (digit_none _ (sym c.in_default-hex_value.is ∙ c.hex_value.ensures))

pub returns : goal.returns
returns c =
    let d = digit_some _ _ (sym c.in-Some-hex_value.is ∙ c.hex_value.ensures) in
    digit_yes _ _ _ _ (step_one _ _ _ _ (sym c.scalar_at.ensures ∙ c.in-Some.is)) d.0 d.1
