use Rattle.std.specs.Prelude.{Err}
use Rattle.std.proofs.lemmas.Result.{err_from_is_err_and}
use Rattle.token.specs.declared.read.Refusal.{Refusal}
use mathlib.Core.Path.{◌≡◌, refl, sym, ap, ap₂, ◌∙◌}
use mathlib.Core.Bool.{Bool, true, false}
use native.Mathlib.Omega.{arith}
use Rattle.laws.specs.Bools.{both}
use Rattle.readers.proofs.Scans.{goes_before, goes_behind, goes_cut, goes_end, goes_on}
use Rattle.readers.proofs.Taken.{taken_ended, taken_some}
use Rattle.readers.proofs.Steps.{answer_last, answer_shut, char_close, char_control, char_letter, char_other, char_slash, char_stop}
use Rattle.readers.specs.Readers.{Chars, broken, char_answer, char_of, char_step, escape, letters, shut}
use Rattle.readers.specs.Scan.{Stop, scan}
use Rattle.text.proofs.Decode.{step_none, step_one}
use Rattle.text.specs.Utf8.{rest, width}
use Rattle.chars.proofs.next_char_or_label.Goals as goal
use Rattle.chars.proofs.next_char_or_label.Goals.{else-label-via-then-label+else-some, else-label-via-else-label}

pub loop-value-init : goal.loop-value-init
loop-value-init c = (c.args.at, refl)

pub returns-in_default : goal.returns-in_default
unfolding char_of
returns-in_default c = c.char_or_label.ensures ∙ answer_last c.args.start c.loop-value.label c.loop-value.some c.loop-value.p c.loop-value.invariant.0 c.loop-value.p ∙ ap (λ (o : Stop Chars). char_answer c.args.start o.state o.last o.place) (goes_end char_step (letters c.loop-value.label c.loop-value.some) c.args.s.now c.loop-value.p (scan char_step width (letters true false) c.args.at (rest c.args.s.now c.args.at) c.args.at) c.loop-value.invariant (step_none c.args.s.now c.loop-value.p (sym c.scalar_at.ensures ∙ c.in_default.is)))

pub returns-then-value-eq-QUOTE : goal.returns-then-value-eq-QUOTE
unfolding char_of
returns-then-value-eq-QUOTE c = c.char_or_label-then-value-eq-QUOTE.ensures ∙ answer_shut c.args.start c.loop-value.some c.in-Some.field-0.next c.loop-value.p c.in-Some.field-0.next ∙ ap (λ (o : Stop Chars). char_answer c.args.start o.state o.last o.place) (goes_behind char_step (letters c.loop-value.label c.loop-value.some) c.args.s.now c.loop-value.p (scan char_step width (letters true false) c.args.at (rest c.args.s.now c.args.at) c.args.at) c.loop-value.invariant c.in-Some.field-0.value c.in-Some.field-0.next (step_one c.args.s.now c.loop-value.p c.in-Some.field-0.value c.in-Some.field-0.next (sym c.scalar_at.ensures ∙ c.in-Some.is)) (shut c.loop-value.some) (char_close c.loop-value.label c.loop-value.some c.in-Some.field-0.value (rest c.args.s.now c.in-Some.field-0.next) c.if-value-eq-QUOTE.true))

pub returns-in_err-p : goal.returns-in_err-p
unfolding char_of
returns-in_err-p c =
    let q = err_from_is_err_and _ c.from_residual.ensures.1 in
    let e = taken_ended c.loop-value.p c.args.s.now c.in-Some.field-0.next _ c.in_err-p.ensures in
    q.1 ∙ ap (λ (r : Refusal). Err r) q.2 ∙ sym (ap (λ (r : Refusal). Err r) e.1) ∙ ap (λ (o : Stop Chars). char_answer c.args.start o.state o.last o.place) (goes_cut char_step (letters c.loop-value.label c.loop-value.some) c.args.s.now c.loop-value.p (scan char_step width (letters true false) c.args.at (rest c.args.s.now c.args.at) c.args.at) c.loop-value.invariant c.in-Some.field-0.value c.in-Some.field-0.next (step_one c.args.s.now c.loop-value.p c.in-Some.field-0.value c.in-Some.field-0.next (sym c.scalar_at.ensures ∙ c.in-Some.is)) escape (char_slash c.loop-value.label c.loop-value.some c.in-Some.field-0.value (rest c.args.s.now c.in-Some.field-0.next) c.if-value-eq-QUOTE.false c.if-value-eq-BACKSLASH.true) e.0)

pub loop-value-smaller-then-value-eq-BACKSLASH : goal.loop-value-smaller-then-value-eq-BACKSLASH
loop-value-smaller-then-value-eq-BACKSLASH c = let k = taken_some c.loop-value.p c.args.s.now c.in-Some.field-0.next c.in_ok-p.p c.in_ok-p.ensures in let t = (step_one c.args.s.now c.loop-value.p c.in-Some.field-0.value c.in-Some.field-0.next (sym c.scalar_at.ensures ∙ c.in-Some.is)) in let u = k.1 in omega arith

pub loop-value-preserved-then-value-eq-BACKSLASH : goal.loop-value-preserved-then-value-eq-BACKSLASH
unfolding char_step
loop-value-preserved-then-value-eq-BACKSLASH c = let k = taken_some c.loop-value.p c.args.s.now c.in-Some.field-0.next c.in_ok-p.p c.in_ok-p.ensures in goes_on char_step escape c.args.s.now c.in-Some.field-0.next (scan char_step width (letters true false) c.args.at (rest c.args.s.now c.args.at) c.args.at) (goes_on char_step (letters c.loop-value.label c.loop-value.some) c.args.s.now c.loop-value.p (scan char_step width (letters true false) c.args.at (rest c.args.s.now c.args.at) c.args.at) c.loop-value.invariant c.in-Some.field-0.value c.in-Some.field-0.next (step_one c.args.s.now c.loop-value.p c.in-Some.field-0.value c.in-Some.field-0.next (sym c.scalar_at.ensures ∙ c.in-Some.is)) escape (char_slash c.loop-value.label c.loop-value.some c.in-Some.field-0.value (rest c.args.s.now c.in-Some.field-0.next) c.if-value-eq-QUOTE.false c.if-value-eq-BACKSLASH.true)) _ _ k.1 (letters false true) refl

pub loop-value-smaller-then-in_label : goal.loop-value-smaller-then-in_label
loop-value-smaller-then-in_label c = let t = (step_one c.args.s.now c.loop-value.p c.in-Some.field-0.value c.in-Some.field-0.next (sym c.scalar_at.ensures ∙ c.in-Some.is)) in omega arith

pub loop-value-preserved-then-in_label : goal.loop-value-preserved-then-in_label
loop-value-preserved-then-in_label c = goes_on char_step (letters c.loop-value.label c.loop-value.some) c.args.s.now c.loop-value.p (scan char_step width (letters true false) c.args.at (rest c.args.s.now c.args.at) c.args.at) c.loop-value.invariant c.in-Some.field-0.value c.in-Some.field-0.next (step_one c.args.s.now c.loop-value.p c.in-Some.field-0.value c.in-Some.field-0.next (sym c.scalar_at.ensures ∙ c.in-Some.is)) (letters c.loop-value.label true) (char_letter c.loop-value.label c.loop-value.some c.in-Some.field-0.value (rest c.args.s.now c.in-Some.field-0.next) c.if-value-eq-QUOTE.false c.if-value-eq-BACKSLASH.false (sym c.in_label.ensures ∙ c.if-in_label.true))

pub returns-then-is_control : goal.returns-then-is_control
unfolding char_of
returns-then-is_control c = c.refused.ensures ∙ ap (λ (o : Stop Chars). char_answer c.args.start o.state o.last o.place) (goes_before char_step (letters c.loop-value.label c.loop-value.some) c.args.s.now c.loop-value.p (scan char_step width (letters true false) c.args.at (rest c.args.s.now c.args.at) c.args.at) c.loop-value.invariant c.in-Some.field-0.value c.in-Some.field-0.next (step_one c.args.s.now c.loop-value.p c.in-Some.field-0.value c.in-Some.field-0.next (sym c.scalar_at.ensures ∙ c.in-Some.is)) broken (char_control c.loop-value.label c.loop-value.some c.in-Some.field-0.value (rest c.args.s.now c.in-Some.field-0.next) c.if-value-eq-QUOTE.false c.if-value-eq-BACKSLASH.false (sym c.in_label.ensures ∙ c.if-in_label.false) (sym c.is_control.ensures ∙ c.if-is_control.true)))

pub returns-then-some : goal.returns-then-some
unfolding char_of
returns-then-some c = c.got.ensures ∙ sym (ap₂ (λ (l m : Bool). char_answer c.args.start (letters l m) c.loop-value.invariant.0 c.loop-value.p) c.if-label.true c.if-some.true) ∙ ap (λ (o : Stop Chars). char_answer c.args.start o.state o.last o.place) (goes_before char_step (letters c.loop-value.label c.loop-value.some) c.args.s.now c.loop-value.p (scan char_step width (letters true false) c.args.at (rest c.args.s.now c.args.at) c.args.at) c.loop-value.invariant c.in-Some.field-0.value c.in-Some.field-0.next (step_one c.args.s.now c.loop-value.p c.in-Some.field-0.value c.in-Some.field-0.next (sym c.scalar_at.ensures ∙ c.in-Some.is)) (letters c.loop-value.label c.loop-value.some) (char_stop c.loop-value.label c.loop-value.some c.in-Some.field-0.value (rest c.args.s.now c.in-Some.field-0.next) c.if-value-eq-QUOTE.false c.if-value-eq-BACKSLASH.false (sym c.in_label.ensures ∙ c.if-in_label.false) (sym c.is_control.ensures ∙ c.if-is_control.false) (ap₂ both c.if-label.true c.if-some.true)))

pub loop-value-smaller : goal.loop-value-smaller
loop-value-smaller c = let t = (step_one c.args.s.now c.loop-value.p c.in-Some.field-0.value c.in-Some.field-0.next (sym c.scalar_at.ensures ∙ c.in-Some.is)) in omega arith

pub loop-value-preserved : goal.loop-value-preserved
loop-value-preserved c =
    let off : both c.loop-value.label c.loop-value.some ≡ false =
    elim c.else-label.branch [
      | else-label-via-then-label+else-some w ↦ ap₂ both w.if-label.true w.if-some.false
      | else-label-via-else-label w ↦ ap (λ (b : Bool). both b c.loop-value.some) w.if-label.false
    ] in
    goes_on char_step (letters c.loop-value.label c.loop-value.some) c.args.s.now c.loop-value.p (scan char_step width (letters true false) c.args.at (rest c.args.s.now c.args.at) c.args.at) c.loop-value.invariant c.in-Some.field-0.value c.in-Some.field-0.next (step_one c.args.s.now c.loop-value.p c.in-Some.field-0.value c.in-Some.field-0.next (sym c.scalar_at.ensures ∙ c.in-Some.is)) (letters false true) (char_other c.loop-value.label c.loop-value.some c.in-Some.field-0.value (rest c.args.s.now c.in-Some.field-0.next) c.if-value-eq-QUOTE.false c.if-value-eq-BACKSLASH.false (sym c.in_label.ensures ∙ c.if-in_label.false) (sym c.is_control.ensures ∙ c.if-is_control.false) off)
