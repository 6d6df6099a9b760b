use mathlib.Core.Path.{refl, ◌∙◌}
use native.Mathlib.Omega.{arith}
use Rattle.text.proofs.Decode.{none_scalar, rest_end, step_ascii, step_scalar, wide_bytes, wide_none, wide_one}
use Rattle.text.proofs.utf8.scalar_at.Goals as goal

pub returns-then-s-at : goal.returns-then-s-at
returns-then-s-at c = none_scalar _ _ (rest_end _ _ c.if-s-at.true)

pub returns-then-a-le127 : goal.returns-then-a-le127
returns-then-a-le127 c = step_scalar _ _ _ _ (step_ascii _ _ c.if-s-at.false c.if-a-le127.true)

pub returns-in_err-value : goal.returns-in_err-value
returns-in_err-value c = c.from_residual.ensures ∙ none_scalar _ _ (wide_none c.args.s.now c.args.at c.if-s-at.false c.if-a-le127.false _ (c.in_err-value.ensures ∙ wide_bytes _ c.byte_at.ensures c.byte_at-2.ensures c.byte_at-3.ensures) refl)

pub overflow_add-result-2 : goal.overflow_add-result-2
overflow_add-result-2 c = omega (arith, (wide_one c.args.s.now c.args.at c.if-s-at.false c.if-a-le127.false _ (c.in_ok-value.ensures ∙ wide_bytes _ c.byte_at.ensures c.byte_at-2.ensures c.byte_at-3.ensures) _ refl c.step_of.result c.step_of.ensures).room)

pub returns : goal.returns
returns c = step_scalar _ _ _ _ (wide_one c.args.s.now c.args.at c.if-s-at.false c.if-a-le127.false _ (c.in_ok-value.ensures ∙ wide_bytes _ c.byte_at.ensures c.byte_at-2.ensures c.byte_at-3.ensures) _ refl c.step_of.result c.step_of.ensures)
