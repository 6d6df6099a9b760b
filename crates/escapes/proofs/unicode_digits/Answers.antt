use Prim.Native.Nat.{◌+◌, ◌*◌, ◌%◌}
use mathlib.Core.Path.{refl, sym, ◌∙◌}
use native.Mathlib.Omega.{arith}
use Rattle.escapes.proofs.Escapes.{digit_none, digit_some, digits_close, digits_end, digits_more, digits_no, hex_small}
use Rattle.text.proofs.Decode.{step_none, step_one}
use Rattle.escapes.proofs.unicode_digits.Goals as goal

pub loop-value-init : goal.loop-value-init
loop-value-init c = refl

pub returns-in_default : goal.returns-in_default
returns-in_default c = digits_end _ _ _ _ (step_none _ _ (sym c.scalar_at.ensures ∙ c.in_default.is)) ∙ c.loop-value.invariant

pub returns-then-value-eq-CLOSE_BRACE : goal.returns-then-value-eq-CLOSE_BRACE
returns-then-value-eq-CLOSE_BRACE c = c.unicode_close.ensures ∙ digits_close _ _ _ _ (step_one _ _ _ _ (sym c.scalar_at.ensures ∙ c.in-Some.is)) _ _ c.if-value-eq-CLOSE_BRACE.true ∙ c.loop-value.invariant

pub returns-in_default-hex_value : goal.returns-in_default-hex_value
returns-in_default-hex_value c = digits_no _ _ _ _ (step_one _ _ _ _ (sym c.scalar_at.ensures ∙ c.in-Some.is)) _ _ c.if-value-eq-CLOSE_BRACE.false (digit_none _ (sym c.in_default-hex_value.is ∙ c.hex_value.ensures)) ∙ c.loop-value.invariant

pub shift_in-requires : goal.shift_in-requires
shift_in-requires c = let d = digit_some _ _ (sym c.in-Some-hex_value.is ∙ c.hex_value.ensures) in omega (arith, d.1, hex_small c.in-Some.field-0.value)

pub loop-value-smaller : goal.loop-value-smaller
loop-value-smaller c = let t = step_one _ _ _ _ (sym c.scalar_at.ensures ∙ c.in-Some.is) in omega arith

pub loop-value-preserved : goal.loop-value-preserved
loop-value-preserved c =
    let d = digit_some _ _ (sym c.in-Some-hex_value.is ∙ c.hex_value.ensures) in
    digits_more _ _ _ _ (step_one _ _ _ _ (sym c.scalar_at.ensures ∙ c.in-Some.is)) _ _ c.if-value-eq-CLOSE_BRACE.false d.0 (c.shift_in.ensures ∙ (λ i. c.unwrap_or.ensures i * 16 % 0x100000000 + d.1 i))
    ∙ c.loop-value.invariant
