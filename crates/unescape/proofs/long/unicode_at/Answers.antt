use mathlib.Core.Path.{refl, sym, ap, ◌∙◌}
use Prim.Native.Nat.{ℕ, ◌+◌, ◌*◌}
use native.Mathlib.Omega.{arith}
use Rattle.escapes.proofs.Escapes.{digit_some, hex_small}
use Rattle.unescape.proofs.Longs.{digits_first, digits_next, digits_packed}
use Rattle.unescape.proofs.long.unicode_at.Goals as goal

pub loop-i-init : goal.loop-i-init
loop-i-init c = digits_first _ _ _ (omega arith) (omega arith) c.if-s-at-ne123.false

pub bounds-s-at-in-loop-i : goal.bounds-s-at-in-loop-i
bounds-s-at-in-loop-i c = omega (arith, c.loop-i.invariant.inside)

pub returns-then-v-eq125 : goal.returns-then-v-eq125
returns-then-v-eq125 c = digits_packed c.args.s.now c.args.at _ _ _ c.loop-i.invariant c.loop-i-test.true _ refl _ c.if-v-eq125.true c.unicode_closed.ensures

pub loop-i-preserved : goal.loop-i-preserved
loop-i-preserved c =
    let d = digit_some _ _ (sym c.in-Some.is ∙ c.hex_value.ensures) in
    digits_next c.args.s.now c.args.at _ _ _ c.loop-i.invariant c.loop-i-test.true c.from.result c.from.ensures (λ k. c.if-v-eq125.false (sym c.from.ensures ∙ k)) d.0 (omega (arith, c.unwrap_or-before.ensures, c.if-before-gt1048575.false)) _ _ d.1
    (ap (λ (k : ℕ). k * 16 + c.in-Some.d) c.unwrap_or-before.ensures)

pub overflow_add-x : goal.overflow_add-x
overflow_add-x c = let d = digit_some _ _ (sym c.in-Some.is ∙ c.hex_value.ensures) in omega (arith, hex_small c.from.result, d.1, c.if-before-gt1048575.false)
