use mathlib.Core.Path.{sym, ap, ◌∙◌}
use native.Mathlib.Omega.{arith}
use Rattle.items.proofs.Lands.{place_of}
use Rattle.text.proofs.Decode.{step_none, step_one}
use Rattle.unescape.proofs.Bodies.{next_past, next_room}
use Rattle.unescape.proofs.Passes.{counted_bad, counted_end, counting_first, counting_item, counting_skipped}
use Rattle.unescape.proofs.body.count_items.Goals as goal

pub loop-value-init : goal.loop-value-init
loop-value-init c = counting_first _ _

pub returns-in_default : goal.returns-in_default
returns-in_default c = counted_end _ _ _ _ c.loop-value.invariant (step_none _ _ (sym c.scalar_at.ensures ∙ c.in_default.is))

pub overflow_add-n : goal.overflow_add-n
overflow_add-n c =
    let t = step_one _ _ _ _ (sym c.scalar_at.ensures ∙ c.in-Some.is) in
    let i = counting_item _ _ _ _ c.loop-value.invariant _ _ t _ c.item_at.ensures _ _ c.in-Item.is in omega (arith, i.few, i.inside)

pub loop-value-smaller-in-Item : goal.loop-value-smaller-in-Item
loop-value-smaller-in-Item c =
    let t = step_one _ _ _ _ (sym c.scalar_at.ensures ∙ c.in-Some.is) in
    omega (arith, next_past c.args.form c.args.s.now _ _ _ t _ c.item_at.ensures, next_room c.args.form c.args.s.now _ _ _ t _ c.item_at.ensures, ap place_of c.in-Item.is)

pub loop-value-preserved-in-Item : goal.loop-value-preserved-in-Item
loop-value-preserved-in-Item c =
    let t = step_one _ _ _ _ (sym c.scalar_at.ensures ∙ c.in-Some.is) in
    counting_item _ _ _ _ c.loop-value.invariant _ _ t _ c.item_at.ensures _ _ c.in-Item.is

pub loop-value-smaller : goal.loop-value-smaller
loop-value-smaller c =
    let t = step_one _ _ _ _ (sym c.scalar_at.ensures ∙ c.in-Some.is) in
    omega (arith, next_past c.args.form c.args.s.now _ _ _ t _ c.item_at.ensures, next_room c.args.form c.args.s.now _ _ _ t _ c.item_at.ensures, ap place_of c.in-Skipped.is)

pub loop-value-preserved : goal.loop-value-preserved
loop-value-preserved c =
    let t = step_one _ _ _ _ (sym c.scalar_at.ensures ∙ c.in-Some.is) in
    counting_skipped _ _ _ _ c.loop-value.invariant _ _ t _ c.item_at.ensures _ c.in-Skipped.is

pub returns-in-Bad : goal.returns-in-Bad
returns-in-Bad c =
    let t = step_one _ _ _ _ (sym c.scalar_at.ensures ∙ c.in-Some.is) in
    counted_bad _ _ _ _ c.loop-value.invariant _ _ t _ c.item_at.ensures _ _ c.in-Bad.is
