use borrow.Author.Tests.{le-leb, lt-leb}
use Rattle.text.proofs.utf8.step_of.Goals as goal

pub returns-then-a-le223 : goal.returns-then-a-le223
returns-then-a-le223 c = simp (le-leb _ _ c.if-a-le223.true)

pub returns-then-a-le239 : goal.returns-then-a-le239
returns-then-a-le239 c = simp (lt-leb _ _ c.if-a-le223.false, le-leb _ _ c.if-a-le239.true)

pub returns-else-a-le239 : goal.returns-else-a-le239
returns-else-a-le239 c = simp (lt-leb _ _ c.if-a-le223.false, lt-leb _ _ c.if-a-le239.false)
