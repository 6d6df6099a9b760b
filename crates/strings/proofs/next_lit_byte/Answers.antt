use Rattle.std.specs.Prelude.{Err}
use Rattle.std.proofs.lemmas.Result.{err_from_is_err_and}
use Rattle.token.specs.declared.read.Refusal.{Refusal}
use mathlib.Core.Path.{refl, sym, ap, ◌∙◌}
use native.Mathlib.Omega.{arith}
use Rattle.readers.proofs.Scans.{goes_behind, goes_cut, goes_end, goes_on, scan_end}
use Rattle.readers.proofs.Taken.{taken_ended, taken_some}
use Rattle.readers.proofs.Steps.{byte_close, byte_control, byte_more, byte_slash}
use Rattle.readers.specs.Readers.{Bytes, backslashed, body, byte_answer, byte_of, byte_step, control, fresh}
use Rattle.readers.specs.Scan.{Stop, scan}
use Rattle.text.proofs.Decode.{step_none, step_one}
use Rattle.text.specs.Utf8.{rest, width}
use Rattle.strings.proofs.next_lit_byte.Goals as goal

pub returns-in_default : goal.returns-in_default
unfolding byte_of
returns-in_default c = c.refused.ensures ∙ ap (λ (o : Stop Bytes). byte_answer c.args.start o.state o.last o.place o.how) (scan_end byte_step fresh c.args.at c.args.s.now c.args.at (step_none c.args.s.now c.args.at (sym c.scalar_at.ensures ∙ c.in_default.is)))

pub loop-value-init : goal.loop-value-init
unfolding byte_step
loop-value-init c = goes_on byte_step fresh c.args.s.now c.args.at (scan byte_step width fresh c.args.at (rest c.args.s.now c.args.at) c.args.at) (c.args.at, refl) _ _ (step_one c.args.s.now c.args.at c.in-Some.field-0.value c.in-Some.field-0.next (sym c.scalar_at.ensures ∙ c.in-Some.is)) body refl

pub returns-in_default-scalar_at : goal.returns-in_default-scalar_at
unfolding byte_of
returns-in_default-scalar_at c = c.refused-in_default-scalar_at.ensures ∙ ap (λ (o : Stop Bytes). byte_answer c.args.start o.state o.last o.place o.how) (goes_end byte_step body c.args.s.now c.loop-value.p (scan byte_step width fresh c.args.at (rest c.args.s.now c.args.at) c.args.at) c.loop-value.invariant (step_none c.args.s.now c.loop-value.p (sym c.scalar_at-in-loop-value.ensures ∙ c.in_default-scalar_at.is)))

pub returns-in_err-p : goal.returns-in_err-p
unfolding byte_of
returns-in_err-p c =
    let q = err_from_is_err_and _ c.from_residual.ensures.1 in
    let e = taken_ended c.loop-value.p c.args.s.now c.in-Some-scalar_at.field-0.next _ c.in_err-p.ensures in
    q.1 ∙ ap (λ (r : Refusal). Err r) q.2 ∙ sym (ap (λ (r : Refusal). Err r) e.1) ∙ ap (λ (o : Stop Bytes). byte_answer c.args.start o.state o.last o.place o.how) (goes_cut byte_step body c.args.s.now c.loop-value.p (scan byte_step width fresh c.args.at (rest c.args.s.now c.args.at) c.args.at) c.loop-value.invariant c.in-Some-scalar_at.field-0.value c.in-Some-scalar_at.field-0.next (step_one c.args.s.now c.loop-value.p c.in-Some-scalar_at.field-0.value c.in-Some-scalar_at.field-0.next (sym c.scalar_at-in-loop-value.ensures ∙ c.in-Some-scalar_at.is)) backslashed (byte_slash c.in-Some-scalar_at.field-0.value (rest c.args.s.now c.in-Some-scalar_at.field-0.next) c.if-value-eq-BACKSLASH.true) e.0)

pub loop-value-smaller-then-value-eq-BACKSLASH : goal.loop-value-smaller-then-value-eq-BACKSLASH
loop-value-smaller-then-value-eq-BACKSLASH c = let k = taken_some c.loop-value.p c.args.s.now c.in-Some-scalar_at.field-0.next c.in_ok-p.p c.in_ok-p.ensures in let t = (step_one c.args.s.now c.loop-value.p c.in-Some-scalar_at.field-0.value c.in-Some-scalar_at.field-0.next (sym c.scalar_at-in-loop-value.ensures ∙ c.in-Some-scalar_at.is)) in let u = k.1 in omega arith

pub loop-value-preserved-then-value-eq-BACKSLASH : goal.loop-value-preserved-then-value-eq-BACKSLASH
unfolding byte_step
loop-value-preserved-then-value-eq-BACKSLASH c = let k = taken_some c.loop-value.p c.args.s.now c.in-Some-scalar_at.field-0.next c.in_ok-p.p c.in_ok-p.ensures in goes_on byte_step backslashed c.args.s.now c.in-Some-scalar_at.field-0.next (scan byte_step width fresh c.args.at (rest c.args.s.now c.args.at) c.args.at) (goes_on byte_step body c.args.s.now c.loop-value.p (scan byte_step width fresh c.args.at (rest c.args.s.now c.args.at) c.args.at) c.loop-value.invariant c.in-Some-scalar_at.field-0.value c.in-Some-scalar_at.field-0.next (step_one c.args.s.now c.loop-value.p c.in-Some-scalar_at.field-0.value c.in-Some-scalar_at.field-0.next (sym c.scalar_at-in-loop-value.ensures ∙ c.in-Some-scalar_at.is)) backslashed (byte_slash c.in-Some-scalar_at.field-0.value (rest c.args.s.now c.in-Some-scalar_at.field-0.next) c.if-value-eq-BACKSLASH.true)) _ _ k.1 body refl

pub returns-then-value-eq-QUOTE : goal.returns-then-value-eq-QUOTE
unfolding byte_of
returns-then-value-eq-QUOTE c = c.got.ensures ∙ ap (λ (o : Stop Bytes). byte_answer c.args.start o.state o.last o.place o.how) (goes_behind byte_step body c.args.s.now c.loop-value.p (scan byte_step width fresh c.args.at (rest c.args.s.now c.args.at) c.args.at) c.loop-value.invariant c.in-Some-scalar_at.field-0.value c.in-Some-scalar_at.field-0.next (step_one c.args.s.now c.loop-value.p c.in-Some-scalar_at.field-0.value c.in-Some-scalar_at.field-0.next (sym c.scalar_at-in-loop-value.ensures ∙ c.in-Some-scalar_at.is)) body (byte_close c.in-Some-scalar_at.field-0.value (rest c.args.s.now c.in-Some-scalar_at.field-0.next) c.if-value-eq-BACKSLASH.false c.if-value-eq-QUOTE.true))

pub returns-then-is_control : goal.returns-then-is_control
unfolding byte_of
returns-then-is_control c = c.refused-then-is_control.ensures ∙ ap (λ (o : Stop Bytes). byte_answer c.args.start o.state o.last o.place o.how) (goes_behind byte_step body c.args.s.now c.loop-value.p (scan byte_step width fresh c.args.at (rest c.args.s.now c.args.at) c.args.at) c.loop-value.invariant c.in-Some-scalar_at.field-0.value c.in-Some-scalar_at.field-0.next (step_one c.args.s.now c.loop-value.p c.in-Some-scalar_at.field-0.value c.in-Some-scalar_at.field-0.next (sym c.scalar_at-in-loop-value.ensures ∙ c.in-Some-scalar_at.is)) control (byte_control c.in-Some-scalar_at.field-0.value (rest c.args.s.now c.in-Some-scalar_at.field-0.next) c.if-value-eq-BACKSLASH.false c.if-value-eq-QUOTE.false (sym c.is_control.ensures ∙ c.if-is_control.true)))

pub loop-value-smaller : goal.loop-value-smaller
loop-value-smaller c = let t = (step_one c.args.s.now c.loop-value.p c.in-Some-scalar_at.field-0.value c.in-Some-scalar_at.field-0.next (sym c.scalar_at-in-loop-value.ensures ∙ c.in-Some-scalar_at.is)) in omega arith

pub loop-value-preserved : goal.loop-value-preserved
loop-value-preserved c = goes_on byte_step body c.args.s.now c.loop-value.p (scan byte_step width fresh c.args.at (rest c.args.s.now c.args.at) c.args.at) c.loop-value.invariant c.in-Some-scalar_at.field-0.value c.in-Some-scalar_at.field-0.next (step_one c.args.s.now c.loop-value.p c.in-Some-scalar_at.field-0.value c.in-Some-scalar_at.field-0.next (sym c.scalar_at-in-loop-value.ensures ∙ c.in-Some-scalar_at.is)) body (byte_more c.in-Some-scalar_at.field-0.value (rest c.args.s.now c.in-Some-scalar_at.field-0.next) c.if-value-eq-BACKSLASH.false c.if-value-eq-QUOTE.false (sym c.is_control.ensures ∙ c.if-is_control.false))
