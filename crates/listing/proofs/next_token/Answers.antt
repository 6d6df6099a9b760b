use mathlib.Core.Path.{◌∙◌}
use Rattle.lexer.proofs.Sources.{later_next}
use Rattle.listing.proofs.next_token.Goals as goal

pub returns-then-at-eq0 : goal.returns-then-at-eq0
returns-then-at-eq0 c = c.next.ensures

pub returns : goal.returns
returns c = c.next_past_start.ensures ∙ later_next c.args.reading c.args.s.now c.args.at c.if-at-eq0.false
