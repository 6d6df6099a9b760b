use mathlib.Core.Path.{sym, ◌∙◌}
use Rattle.lexer.proofs.Sources.{close_empty, close_got, close_other}
use borrow.Author.Tests.{eqb-false, eqb-true, not-false, not-true}
use Rattle.lexer.proofs.close_span.Goals as goal

pub returns-then-ne : goal.returns-then-ne
returns-then-ne c = sym c.in-Err.is ∙ close_other c.args.end c.args.r c.in-Err.refusal c.in-Err.is (eqb-false _ 12 (not-true _ (sym c.ne.ensures ∙ c.if-ne.true)))

pub returns-in-Ok : goal.returns-in-Ok
returns-in-Ok c = sym c.in-Ok.is ∙ close_got c.args.end c.args.r c.in-Ok.token c.in-Ok.is

pub returns-else-ne : goal.returns-else-ne
returns-else-ne c = c.refused.ensures ∙ close_empty c.args.end c.args.r c.in-Err.refusal c.in-Err.is (eqb-true _ 12 (not-false _ (sym c.ne.ensures ∙ c.if-ne.false)))
