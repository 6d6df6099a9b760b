use mathlib.Core.Path.{sym}
use borrow.Author.Tests.{eq-eqb, ne_eqb}
use Rattle.findings.proofs.walk.alike_got.Goals as goal

pub returns-then-number_of : goal.returns-then-number_of
returns-then-number_of c = rw (← c.number_of.ensures, ← c.number_of-2.ensures) (sym (simp (ne_eqb _ _ c.if-number_of.true)))

pub returns : goal.returns
returns c = rw (← c.number_of.ensures, ← c.number_of-2.ensures) (sym (simp (eq-eqb _ _ c.if-number_of.false)))
