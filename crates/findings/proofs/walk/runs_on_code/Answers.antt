use Rattle.findings.specs.declared.code.Code.TheVariants.{RunsOn, RunsOnBlank}
use mathlib.Core.Path.{sym, ap, ◌∙◌}
use mathlib.Core.Bool.{Bool}
use Rattle.findings.specs.Findings.{runs_on_code}
use Rattle.laws.specs.Bools.{pick}
use Rattle.findings.proofs.walk.runs_on_code.Goals as goal

pub returns-then-holds : goal.returns-then-holds
unfolding runs_on_code
returns-then-holds c = sym (ap (λ (b : Bool). pick b RunsOn RunsOnBlank) (sym c.holds.ensures ∙ c.if-holds.true))

pub returns : goal.returns
unfolding runs_on_code
returns c = sym (ap (λ (b : Bool). pick b RunsOn RunsOnBlank) (sym c.holds.ensures ∙ c.if-holds.false))
