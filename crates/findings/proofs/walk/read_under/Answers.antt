use mathlib.Core.Path.{sym, ap, ◌∙◌}
use Rattle.findings.proofs.Parted.{under_same}
use Rattle.findings.specs.Findings.{under_first}
use Rattle.lexer.specs.Next.{next_at}
use Rattle.readers.specs.declared.reading.Reading.{Reading}
use Rattle.findings.proofs.walk.read_under.Goals as goal

pub returns-then-not-parts : goal.returns-then-not-parts
returns-then-not-parts c = under_same c.args.reading c.args.s.now c.args.at c.args.a c.requires (sym c.parts.ensures ∙ c.if-not-parts.true) ∙ ap (next_at (under_first c.args.reading) c.args.s.now) (sym c.if-place-at.true)

pub returns : goal.returns
returns c = c.next.ensures ∙ ap (λ (f : Reading). next_at f c.args.s.now c.args.place) c.under_first.ensures
