use mathlib.Core.Path.{sym, ap, ◌∙◌}
use Rattle.findings.proofs.Parted.{parts_low, parts_rest, parts_template}
use Rattle.findings.specs.InStep.{parts_of}
use Rattle.findings.proofs.walk.parts.Goals as goal

pub returns-then-n-eq16 : goal.returns-then-n-eq16
returns-then-n-eq16 c = parts_template c.in-Ok.token c.number_of-n.result c.number_of-n.ensures c.if-n-eq16.true ∙ sym (ap parts_of c.in-Ok.is)

pub returns-then-n-lt3 : goal.returns-then-n-lt3
returns-then-n-lt3 c = parts_low c.in-Ok.token c.number_of-n.result c.number_of-n.ensures c.if-n-eq16.false c.if-n-lt3.true ∙ sym (ap parts_of c.in-Ok.is)

pub returns-else-n-lt3 : goal.returns-else-n-lt3
returns-else-n-lt3 c = parts_rest c.in-Ok.token c.number_of-n.result c.number_of-n.ensures c.if-n-eq16.false c.if-n-lt3.false ∙ sym (ap parts_of c.in-Ok.is)
