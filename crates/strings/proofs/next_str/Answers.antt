use Rattle.std.specs.Prelude.{Err}
use Rattle.std.proofs.lemmas.Result.{err_from_is_err_and}
use Rattle.token.specs.declared.read.Refusal.{Refusal}
use Rattle.token.specs.declared.reason.Reason.{Reason}
use mathlib.Core.Path.{refl, sym, ap, ◌∙◌}
use mathlib.Core.Bool.{true, false}
use native.Mathlib.Omega.{arith}
use Rattle.readers.proofs.Scans.{goes_behind, goes_cut, goes_end, goes_on}
use Rattle.readers.proofs.Taken.{taken_ended, taken_some}
use Rattle.readers.proofs.Steps.{str_close, str_more, str_slash}
use Rattle.readers.specs.Readers.{Quoted, slashed, str_answer, str_of, str_step, text}
use Rattle.readers.specs.Scan.{Stop, scan}
use Rattle.text.proofs.Decode.{step_none, step_one}
use Rattle.text.specs.Utf8.{rest, width}
use Rattle.token.specs.Reads.{got_of, refused_of}
use Rattle.token.specs.declared.kind.Kind.{Kind}
use Rattle.strings.proofs.next_str.Goals as goal

pub loop-value-init : goal.loop-value-init
loop-value-init c = (c.args.at, refl)

pub returns-in_default : goal.returns-in_default
unfolding str_of
returns-in_default c = c.refused.ensures ∙ ap (λ (k : Reason). refused_of k c.args.start c.loop-value.p c.loop-value.p) c.str_reason.ensures ∙ ap (λ (o : Stop Quoted). str_answer c.args.bytes c.args.start o.state o.last o.place o.how) (goes_end str_step (text c.loop-value.escaped) c.args.s.now c.loop-value.p (scan str_step width (text false) c.args.at (rest c.args.s.now c.args.at) c.args.at) c.loop-value.invariant (step_none c.args.s.now c.loop-value.p (sym c.scalar_at.ensures ∙ c.in_default.is)))

pub returns-then-value-eq-DOUBLE_QUOTE : goal.returns-then-value-eq-DOUBLE_QUOTE
unfolding str_of
returns-then-value-eq-DOUBLE_QUOTE c = c.got.ensures ∙ ap (λ (k : Kind). got_of k c.args.start c.in-Some.field-0.next) c.str_kind.ensures ∙ ap (λ (o : Stop Quoted). str_answer c.args.bytes c.args.start o.state o.last o.place o.how) (goes_behind str_step (text c.loop-value.escaped) c.args.s.now c.loop-value.p (scan str_step width (text false) c.args.at (rest c.args.s.now c.args.at) c.args.at) c.loop-value.invariant c.in-Some.field-0.value c.in-Some.field-0.next (step_one c.args.s.now c.loop-value.p c.in-Some.field-0.value c.in-Some.field-0.next (sym c.scalar_at.ensures ∙ c.in-Some.is)) (text c.loop-value.escaped) (str_close c.loop-value.escaped c.in-Some.field-0.value (rest c.args.s.now c.in-Some.field-0.next) c.if-value-eq-DOUBLE_QUOTE.true))

pub returns-in_err-p : goal.returns-in_err-p
unfolding str_of
returns-in_err-p c =
    let q = err_from_is_err_and _ c.from_residual.ensures.1 in
    let e = taken_ended c.loop-value.p c.args.s.now c.in-Some.field-0.next _ c.in_err-p.ensures in
    q.1 ∙ ap (λ (r : Refusal). Err r) q.2 ∙ sym (ap (λ (r : Refusal). Err r) e.1) ∙ ap (λ (o : Stop Quoted). str_answer c.args.bytes c.args.start o.state o.last o.place o.how) (goes_cut str_step (text c.loop-value.escaped) c.args.s.now c.loop-value.p (scan str_step width (text false) c.args.at (rest c.args.s.now c.args.at) c.args.at) c.loop-value.invariant c.in-Some.field-0.value c.in-Some.field-0.next (step_one c.args.s.now c.loop-value.p c.in-Some.field-0.value c.in-Some.field-0.next (sym c.scalar_at.ensures ∙ c.in-Some.is)) (slashed c.loop-value.escaped) (str_slash c.loop-value.escaped c.in-Some.field-0.value (rest c.args.s.now c.in-Some.field-0.next) c.if-value-eq-DOUBLE_QUOTE.false c.if-value-eq-BACKSLASH.true) e.0)

pub loop-value-smaller-then-value-eq-BACKSLASH : goal.loop-value-smaller-then-value-eq-BACKSLASH
loop-value-smaller-then-value-eq-BACKSLASH c = let k = taken_some c.loop-value.p c.args.s.now c.in-Some.field-0.next c.in_ok-p.p c.in_ok-p.ensures in let t = (step_one c.args.s.now c.loop-value.p c.in-Some.field-0.value c.in-Some.field-0.next (sym c.scalar_at.ensures ∙ c.in-Some.is)) in let u = k.1 in omega arith

pub loop-value-preserved-then-value-eq-BACKSLASH : goal.loop-value-preserved-then-value-eq-BACKSLASH
unfolding str_step
loop-value-preserved-then-value-eq-BACKSLASH c = let k = taken_some c.loop-value.p c.args.s.now c.in-Some.field-0.next c.in_ok-p.p c.in_ok-p.ensures in goes_on str_step (slashed c.loop-value.escaped) c.args.s.now c.in-Some.field-0.next (scan str_step width (text false) c.args.at (rest c.args.s.now c.args.at) c.args.at) (goes_on str_step (text c.loop-value.escaped) c.args.s.now c.loop-value.p (scan str_step width (text false) c.args.at (rest c.args.s.now c.args.at) c.args.at) c.loop-value.invariant c.in-Some.field-0.value c.in-Some.field-0.next (step_one c.args.s.now c.loop-value.p c.in-Some.field-0.value c.in-Some.field-0.next (sym c.scalar_at.ensures ∙ c.in-Some.is)) (slashed c.loop-value.escaped) (str_slash c.loop-value.escaped c.in-Some.field-0.value (rest c.args.s.now c.in-Some.field-0.next) c.if-value-eq-DOUBLE_QUOTE.false c.if-value-eq-BACKSLASH.true)) _ _ k.1 (text true) refl

pub loop-value-smaller : goal.loop-value-smaller
loop-value-smaller c = let t = (step_one c.args.s.now c.loop-value.p c.in-Some.field-0.value c.in-Some.field-0.next (sym c.scalar_at.ensures ∙ c.in-Some.is)) in omega arith

pub loop-value-preserved : goal.loop-value-preserved
loop-value-preserved c = goes_on str_step (text c.loop-value.escaped) c.args.s.now c.loop-value.p (scan str_step width (text false) c.args.at (rest c.args.s.now c.args.at) c.args.at) c.loop-value.invariant c.in-Some.field-0.value c.in-Some.field-0.next (step_one c.args.s.now c.loop-value.p c.in-Some.field-0.value c.in-Some.field-0.next (sym c.scalar_at.ensures ∙ c.in-Some.is)) (text c.loop-value.escaped) (str_more c.loop-value.escaped c.in-Some.field-0.value (rest c.args.s.now c.in-Some.field-0.next) c.if-value-eq-DOUBLE_QUOTE.false c.if-value-eq-BACKSLASH.false)
