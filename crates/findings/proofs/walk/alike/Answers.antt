use mathlib.Core.Path.{sym, ap₂, ◌∙◌}
use Rattle.findings.specs.Findings.{alike}
use Rattle.findings.proofs.walk.alike.Goals as goal

pub returns-in-Ok-b : goal.returns-in-Ok-b
returns-in-Ok-b c = c.alike_got.ensures ∙ sym (ap₂ alike c.in-Ok.is c.in-Ok-b.is)
