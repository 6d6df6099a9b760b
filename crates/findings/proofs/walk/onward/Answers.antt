use mathlib.Core.Path.{refl, sym, ◌∙◌}
use native.Mathlib.Omega.{arith}
use Rattle.findings.proofs.Readings.{go_onward, stay_end, stay_over, stay_refused}
use Rattle.findings.specs.Findings.{under_first}
use Rattle.families.proofs.Steps.{tokens_past, tokens_room}
use Rattle.findings.proofs.walk.onward.Goals as goal

pub loop-read-init : goal.loop-read-init
loop-read-init c = (c.requires.0, c.requires.1, refl)

pub returns-in_default : goal.returns-in_default
returns-in_default c = (c.loop-read.invariant.0, c.loop-read.invariant.1, sym c.loop-read.invariant.2 ∙ stay_refused (under_first c.args.reading) c.args.s.now c.args.at c.loop-read.place c.loop-read.read c.loop-read.invariant.0 c.in_default.field-0 c.in_default.is)

pub returns-then-at-end : goal.returns-then-at-end
returns-then-at-end c = (sym c.in-Ok.is ∙ c.loop-read.invariant.0, c.loop-read.invariant.1, sym c.loop-read.invariant.2 ∙ stay_over (under_first c.args.reading) c.args.s.now c.args.at c.loop-read.place c.loop-read.read c.loop-read.invariant.0 c.in-Ok.token c.in-Ok.is c.if-at-end.true)

pub returns-then-end-place : goal.returns-then-end-place
returns-then-end-place c = (sym c.in-Ok.is ∙ c.loop-read.invariant.0, c.loop-read.invariant.1, sym c.loop-read.invariant.2 ∙ stay_end (under_first c.args.reading) c.args.s.now c.args.at c.loop-read.place c.loop-read.read c.loop-read.invariant.0 c.in-Ok.token c.in-Ok.is c.if-end-place.true)

pub read_under-read-requires : goal.read_under-read-requires
read_under-read-requires c = c.requires.2

pub loop-read-smaller : goal.loop-read-smaller
loop-read-smaller c = omega (arith, tokens_past (under_first c.args.reading) c.args.s.now c.loop-read.place c.loop-read.read c.loop-read.invariant.0 c.in-Ok.token c.in-Ok.is c.if-end-place.false, tokens_room (under_first c.args.reading) c.args.s.now c.loop-read.place c.loop-read.read c.loop-read.invariant.0 c.in-Ok.token c.in-Ok.is c.if-end-place.false)

pub loop-read-preserved : goal.loop-read-preserved
loop-read-preserved c = (c.read_under-read.ensures, tokens_room (under_first c.args.reading) c.args.s.now c.loop-read.place c.loop-read.read c.loop-read.invariant.0 c.in-Ok.token c.in-Ok.is c.if-end-place.false, go_onward (under_first c.args.reading) c.args.s.now c.args.at c.loop-read.place c.loop-read.read c.loop-read.invariant.0 c.in-Ok.token c.in-Ok.is c.if-end-place.false c.if-at-end.false ∙ c.loop-read.invariant.2)
