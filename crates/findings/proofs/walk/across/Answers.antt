use mathlib.Core.Path.{sym, ap₂, ◌∙◌}
use Rattle.findings.proofs.Readings.{across_alike, across_apart, across_runs}
use Rattle.findings.specs.Findings.{runs_on}
use Rattle.findings.proofs.walk.across.Goals as goal

pub returns-then-under-at : goal.returns-then-under-at
returns-then-under-at c = across_apart c.args.reading c.args.s.now c.args.at c.args.a c.args.under.place c.args.under.read _ c.if-under-at.true c.as_code.ensures

pub returns-then-alike : goal.returns-then-alike
returns-then-alike c = across_alike c.args.reading c.args.s.now c.args.at c.args.a c.args.under.place c.args.under.read c.if-under-at.false (sym c.alike.ensures ∙ c.if-alike.true)

pub returns : goal.returns
returns c = across_runs c.args.reading c.args.s.now c.args.at c.args.a c.args.under.place c.args.under.read c.runs_on.result c.if-under-at.false (sym c.alike.ensures ∙ c.if-alike.false) (c.runs_on.ensures ∙ ap₂ (runs_on c.args.reading c.args.s.now c.args.at) c.reached.ensures c.reached-2.ensures)
