use Rattle.std.specs.Prelude.{Err}
use Rattle.std.proofs.lemmas.Result.{err_from_is_err_and}
use Rattle.token.specs.declared.reason.Reason.TheVariants.{BadByteEscape}
use Prim.Native.Nat.{ℕ}
use mathlib.Core.Path.{ap, ◌∙◌}
use native.Mathlib.Omega.{arith}
use Rattle.escapes.proofs.Escapes.{digit_small, high_err, high_ok, low_err, low_ok}
use Rattle.escapes.specs.Numbers.{item_or}
use Rattle.escapes.proofs.hex_byte.Goals as goal

pub returns-in_err-high : goal.returns-in_err-high
returns-in_err-high c =
    let q = err_from_is_err_and _ c.from_residual.ensures.1 in
    ap (item_or BadByteEscape) (q.1 ∙ ap (λ (r : ℕ). Err r) q.2) ∙ high_err _ _ _ c.in_err-high.ensures

pub returns-in_err-low : goal.returns-in_err-low
returns-in_err-low c =
    let q = err_from_is_err_and _ c.from_residual-in_err-low.ensures.1 in
    ap (item_or BadByteEscape) (q.1 ∙ ap (λ (r : ℕ). Err r) q.2) ∙ low_err _ _ _ c.in_err-low.ensures _ ∙ high_ok _ _ _ c.in_ok-high.ensures

pub overflow_mul-result : goal.overflow_mul-result
overflow_mul-result c = omega (arith, digit_small _ _ _ c.in_ok-high.ensures)

pub overflow_add-result : goal.overflow_add-result
overflow_add-result c = omega (arith, digit_small _ _ _ c.in_ok-high.ensures, digit_small _ _ _ c.in_ok-low.ensures)

pub returns : goal.returns
returns c = low_ok _ _ _ c.in_ok-low.ensures _ ∙ high_ok _ _ _ c.in_ok-high.ensures
