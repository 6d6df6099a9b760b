use mathlib.Core.Path.{◌≡◌, sym, ap, ◌∙◌}
use mathlib.Core.Bool.{true, false}
use native.Mathlib.Omega.{arith}
use Rattle.readers.proofs.Scans.{goes_before, goes_end, goes_on, goes_place}
use Rattle.readers.proofs.Steps.{number_bare, number_dot, number_more, number_other, number_sign, signed_run}
use Rattle.readers.specs.Numbers.{Numeral, first_part, number_end, number_lit_of, number_step, signed, unsigned}
use Rattle.readers.specs.Scan.{Stop, before, on, scan}
use Rattle.readers.specs.declared.number.Part.{Part}
use Rattle.text.proofs.Decode.{step_none, step_one}
use Rattle.text.specs.Utf8.{rest, width}
use Rattle.token.specs.Reads.{got_of}
use Rattle.token.specs.declared.kind.Kind.TheVariants.{Number}
use Rattle.words.proofs.number.next_number_literal.Goals as goal
use Rattle.words.proofs.number.next_number_literal.Goals.{else-joins-via-then-joins+else-digit_at, else-joins-via-else-joins}

pub loop-value-init : goal.loop-value-init
loop-value-init c = (c.args.at, ap (λ (r : Part). scan number_step width (unsigned true r) c.args.at (rest c.args.s.now c.args.at) c.args.at) c.first_part-part.ensures)

pub returns-in_default : goal.returns-in_default
unfolding number_lit_of number_end
returns-in_default c = c.got.ensures ∙ ap (λ (o : Stop Numeral). got_of Number c.args.start o.place) (goes_end number_step (unsigned c.loop-value.whole c.loop-value.part) c.args.s.now c.loop-value.p (scan number_step width (unsigned true (first_part c.args.first)) c.args.at (rest c.args.s.now c.args.at) c.args.at) c.loop-value.invariant (step_none c.args.s.now c.loop-value.p (sym c.scalar_at.ensures ∙ c.in_default.is)))

pub loop-value-smaller-then-in_number : goal.loop-value-smaller-then-in_number
loop-value-smaller-then-in_number c = let t = (step_one c.args.s.now c.loop-value.p c.in-Some.field-0.value c.in-Some.field-0.next (sym c.scalar_at.ensures ∙ c.in-Some.is)) in omega arith

pub loop-value-preserved-then-in_number : goal.loop-value-preserved-then-in_number
loop-value-preserved-then-in_number c = goes_on number_step (unsigned c.loop-value.whole c.loop-value.part) c.args.s.now c.loop-value.p (scan number_step width (unsigned true (first_part c.args.first)) c.args.at (rest c.args.s.now c.args.at) c.args.at) c.loop-value.invariant c.in-Some.field-0.value c.in-Some.field-0.next (step_one c.args.s.now c.loop-value.p c.in-Some.field-0.value c.in-Some.field-0.next (sym c.scalar_at.ensures ∙ c.in-Some.is)) (unsigned c.loop-value.whole c.part_on-part.result) (number_more c.in-Some.field-0.value (rest c.args.s.now c.in-Some.field-0.next) c.loop-value.whole c.loop-value.part (sym c.in_number.ensures ∙ c.if-in_number.true) ∙ ap (λ (r : Part). on (unsigned c.loop-value.whole r)) (sym c.part_on-part.ensures))

pub returns-else-joins : goal.returns-else-joins
unfolding number_lit_of number_end
returns-else-joins c =
    let stop : number_step (unsigned c.loop-value.whole c.loop-value.part) c.in-Some.field-0.value (rest c.args.s.now c.in-Some.field-0.next) ≡ before (unsigned c.loop-value.whole c.loop-value.part) =
    elim c.else-joins.branch [
      | else-joins-via-then-joins+else-digit_at w ↦ number_bare c.in-Some.field-0.value (rest c.args.s.now c.in-Some.field-0.next) c.loop-value.whole c.loop-value.part (sym c.in_number.ensures ∙ c.if-in_number.false) (sym c.joins.ensures ∙ w.if-joins.true) (sym w.digit_at.ensures ∙ w.if-digit_at.false)
      | else-joins-via-else-joins w ↦ number_other c.in-Some.field-0.value (rest c.args.s.now c.in-Some.field-0.next) c.loop-value.whole c.loop-value.part (sym c.in_number.ensures ∙ c.if-in_number.false) (sym c.joins.ensures ∙ w.if-joins.false)
    ] in
    c.got-else-joins.ensures ∙ ap (λ (o : Stop Numeral). got_of Number c.args.start o.place) (goes_before number_step (unsigned c.loop-value.whole c.loop-value.part) c.args.s.now c.loop-value.p (scan number_step width (unsigned true (first_part c.args.first)) c.args.at (rest c.args.s.now c.args.at) c.args.at) c.loop-value.invariant c.in-Some.field-0.value c.in-Some.field-0.next (step_one c.args.s.now c.loop-value.p c.in-Some.field-0.value c.in-Some.field-0.next (sym c.scalar_at.ensures ∙ c.in-Some.is)) (unsigned c.loop-value.whole c.loop-value.part) stop)

pub returns-then-value-ne-DOT : goal.returns-then-value-ne-DOT
unfolding number_lit_of number_end
returns-then-value-ne-DOT c = c.got-then-value-ne-DOT.ensures ∙ ap (got_of Number c.args.start) (c.run_end_by.ensures ∙ signed_run width (rest c.args.s.now c.in-Some.field-0.next) c.in-Some.field-0.next ∙ goes_place number_step signed c.args.s.now c.in-Some.field-0.next (scan number_step width (unsigned true (first_part c.args.first)) c.args.at (rest c.args.s.now c.args.at) c.args.at) (goes_on number_step (unsigned c.loop-value.whole c.loop-value.part) c.args.s.now c.loop-value.p (scan number_step width (unsigned true (first_part c.args.first)) c.args.at (rest c.args.s.now c.args.at) c.args.at) c.loop-value.invariant c.in-Some.field-0.value c.in-Some.field-0.next (step_one c.args.s.now c.loop-value.p c.in-Some.field-0.value c.in-Some.field-0.next (sym c.scalar_at.ensures ∙ c.in-Some.is)) signed (number_sign c.in-Some.field-0.value (rest c.args.s.now c.in-Some.field-0.next) c.loop-value.whole c.loop-value.part (sym c.in_number.ensures ∙ c.if-in_number.false) (sym c.joins.ensures ∙ c.if-joins.true) (sym c.digit_at.ensures ∙ c.if-digit_at.true) c.if-value-ne-DOT.true)) c.in-Some.field-0.next)

pub loop-value-smaller : goal.loop-value-smaller
loop-value-smaller c = let t = (step_one c.args.s.now c.loop-value.p c.in-Some.field-0.value c.in-Some.field-0.next (sym c.scalar_at.ensures ∙ c.in-Some.is)) in omega arith

pub loop-value-preserved : goal.loop-value-preserved
loop-value-preserved c = goes_on number_step (unsigned c.loop-value.whole c.loop-value.part) c.args.s.now c.loop-value.p (scan number_step width (unsigned true (first_part c.args.first)) c.args.at (rest c.args.s.now c.args.at) c.args.at) c.loop-value.invariant c.in-Some.field-0.value c.in-Some.field-0.next (step_one c.args.s.now c.loop-value.p c.in-Some.field-0.value c.in-Some.field-0.next (sym c.scalar_at.ensures ∙ c.in-Some.is)) (unsigned false c.past_dot-part.result) (number_dot c.in-Some.field-0.value (rest c.args.s.now c.in-Some.field-0.next) c.loop-value.whole c.loop-value.part (sym c.in_number.ensures ∙ c.if-in_number.false) (sym c.joins.ensures ∙ c.if-joins.true) (sym c.digit_at.ensures ∙ c.if-digit_at.true) c.if-value-ne-DOT.false ∙ ap (λ (r : Part). on (unsigned false r)) (sym c.past_dot-part.ensures))
