use mathlib.Core.Path.{refl, sym, ◌∙◌}
use native.Mathlib.Omega.{arith}
use Rattle.findings.proofs.Readings.{holds_end, holds_full, holds_on, holds_refused, holds_stop}
use Rattle.families.proofs.Steps.{tokens_past, tokens_room}
use Rattle.findings.proofs.walk.holds.Goals as goal

pub loop-p-init : goal.loop-p-init
loop-p-init c = refl

pub returns-then-to-p : goal.returns-then-to-p
returns-then-to-p c = holds_stop c.args.reading c.args.s.now c.loop-p.p c.args.to c.if-to-p.true ∙ c.loop-p.invariant

pub returns-in_default : goal.returns-in_default
returns-in_default c = holds_refused c.args.reading c.args.s.now c.loop-p.p c.args.to c.next.result c.next.ensures c.if-to-p.false c.in_default.field-0 c.in_default.is ∙ c.loop-p.invariant

pub returns-then-end-p : goal.returns-then-end-p
returns-then-end-p c = holds_end c.args.reading c.args.s.now c.loop-p.p c.args.to c.next.result c.next.ensures c.if-to-p.false c.in-Ok.token c.in-Ok.is c.if-end-p.true ∙ c.loop-p.invariant

pub returns-then-not-is_blank : goal.returns-then-not-is_blank
returns-then-not-is_blank c = holds_full c.args.reading c.args.s.now c.loop-p.p c.args.to c.next.result c.next.ensures c.if-to-p.false c.in-Ok.token c.in-Ok.is c.if-end-p.false (sym c.is_blank.ensures ∙ c.if-not-is_blank.true) ∙ c.loop-p.invariant

pub loop-p-smaller : goal.loop-p-smaller
loop-p-smaller c = omega (arith, tokens_past c.args.reading c.args.s.now c.loop-p.p c.next.result c.next.ensures c.in-Ok.token c.in-Ok.is c.if-end-p.false, tokens_room c.args.reading c.args.s.now c.loop-p.p c.next.result c.next.ensures c.in-Ok.token c.in-Ok.is c.if-end-p.false)

pub loop-p-preserved : goal.loop-p-preserved
loop-p-preserved c = holds_on c.args.reading c.args.s.now c.loop-p.p c.args.to c.next.result c.next.ensures c.if-to-p.false c.in-Ok.token c.in-Ok.is c.if-end-p.false (sym c.is_blank.ensures ∙ c.if-not-is_blank.false) ∙ c.loop-p.invariant
