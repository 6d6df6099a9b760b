use mathlib.Core.Path.{refl, sym, ap, ◌∙◌}
use Rattle.token.proofs.Reasons.{reason_one}
use Rattle.token.specs.Reads.{point_refusal, refusal_in}
use Rattle.token.specs.declared.reason.Reason.{Reason}
use Rattle.token.proofs.read.refusal_in.Goals as goal

pub returns-in-Ok : goal.returns-in-Ok
returns-in-Ok c = c.point.ensures ∙ ap (λ (k : Reason). point_refusal k c.in-Ok.token.span.end) (reason_one _ _ refl) ∙ ap refusal_in (sym c.in-Ok.is)
