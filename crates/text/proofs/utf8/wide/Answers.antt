use mathlib.Core.Path.{◌∙◌}
use borrow.Author.Tests.{le-leb, lt-leb}
use Rattle.text.specs.Wide.{wide_of}
use Rattle.text.proofs.utf8.wide.Goals as goal

pub returns-then-a-le223 : goal.returns-then-a-le223
unfolding wide_of
returns-then-a-le223 c = c.two.ensures ∙ simp (le-leb _ _ c.if-a-le223.true)

pub returns-then-a-le239 : goal.returns-then-a-le239
unfolding wide_of
returns-then-a-le239 c = c.three.ensures ∙ simp (lt-leb _ _ c.if-a-le223.false, le-leb _ _ c.if-a-le239.true)

pub returns : goal.returns
unfolding wide_of
returns c = c.four.ensures ∙ simp (lt-leb _ _ c.if-a-le223.false, lt-leb _ _ c.if-a-le239.false)
