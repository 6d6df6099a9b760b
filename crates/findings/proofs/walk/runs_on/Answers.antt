use mathlib.Core.Path.{ap, ◌∙◌}
use Rattle.findings.proofs.Readings.{runs_later, runs_sooner}
use Rattle.findings.specs.Findings.{runs_on_code}
use Rattle.readers.specs.declared.reading.Reading.{Reading}
use Rattle.findings.proofs.walk.runs_on.Goals as goal

pub returns-then-there-here : goal.returns-then-there-here
returns-then-there-here c = runs_sooner c.args.reading c.args.s.now c.args.at c.args.here c.args.there c.runs_on_code.result c.if-there-here.true (c.runs_on_code.ensures ∙ ap (λ (f : Reading). runs_on_code f c.args.s.now c.args.there c.args.here) c.under_first.ensures)

pub returns : goal.returns
returns c = runs_later c.args.reading c.args.s.now c.args.at c.args.here c.args.there c.runs_on_code-2.result c.if-there-here.false c.runs_on_code-2.ensures
