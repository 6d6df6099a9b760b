use mathlib.Core.Path.{ap, ◌∙◌}
use lib.ListN.{length}
use Rattle.lexer.specs.Next.{close_span, past_start_at}
use Rattle.lexer.proofs.next_past_start.Goals as goal

pub returns : goal.returns
unfolding past_start_at
returns c = c.close_span.ensures ∙ ap (close_span (length c.args.s.now)) c.read_token.ensures
