use mathlib.Core.Path.{◌≡◌, refl, sym, ◌∙◌}
use mathlib.Core.Bool.{true}
use Prim.Native.Nat.{◌<◌}
use native.Mathlib.Omega.{arith}
use Rattle.classes.specs.Digits.{hex_value, is_hex_digit}
use Rattle.escapes.proofs.Escapes.{digit_some, hex_small}
use Rattle.unescape.proofs.Longs.{hex_packed}
use Rattle.unescape.proofs.long.hex_at.Goals.{In-Some, In-Some-hex_value}
use Rattle.unescape.proofs.long.hex_at.Goals as goal

high : (c : In-Some) → (is_hex_digit c.from.result ≡ true) × (c.in-Some.a ≡ hex_value c.from.result)
high c = digit_some _ _ (sym c.in-Some.is ∙ c.hex_value.ensures)

low : (c : In-Some-hex_value) → (is_hex_digit c.from-2.result ≡ true) × (c.in-Some-hex_value.b ≡ hex_value c.from-2.result)
low c = digit_some _ _ (sym c.in-Some-hex_value.is ∙ c.hex_value-2.ensures)

high_small : (c : In-Some) → c.in-Some.a < 16
high_small c = omega (arith, hex_small c.from.result, (high c).1)

low_small : (c : In-Some-hex_value) → c.in-Some-hex_value.b < 16
low_small c = omega (arith, hex_small c.from-2.result, (low c).1)

pub overflow_mul-x : goal.overflow_mul-x
overflow_mul-x c = omega (arith, high_small (goal.at.overflow_mul-x c).In-Some)

pub overflow_add-x : goal.overflow_add-x
overflow_add-x c = let a = goal.at.overflow_add-x c in omega (arith, high_small a.In-Some, low_small a.In-Some-hex_value)

pub overflow_mul-result : goal.overflow_mul-result
overflow_mul-result c = let a = goal.at.overflow_mul-result c in omega (arith, high_small a.In-Some, low_small a.In-Some-hex_value)

pub overflow_add-result : goal.overflow_add-result
overflow_add-result c = let a = goal.at.overflow_add-result c in omega (arith, high_small a.In-Some, low_small a.In-Some-hex_value)

pub returns : goal.returns
returns c =
    let a = goal.at.returns c in
    let h = high a.In-Some in
    let l = low a.In-Some-hex_value in
    (hex_packed c.args.s.now c.args.at _ _ _ _ _ c.from.ensures c.from-2.ensures (omega arith) h.0 l.0 h.1 l.1 refl, omega arith)
