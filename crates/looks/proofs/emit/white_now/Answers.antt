use lib.ListN.{get_or}
use borrow.Author.Tests.{eq-eqb, ne_eqb}
use Rattle.looks.specs.Front.{front_white}
use Rattle.looks.proofs.emit.white_now.Goals as goal

pub returns-then-state-eq0 : goal.returns-then-state-eq0
unfolding front_white
returns-then-state-eq0 c = rw (eq-eqb (get_or c.args.state.now.nums 3 0) 0 c.if-state-eq0.true)

pub returns : goal.returns
unfolding front_white
returns c = rw (ne_eqb (get_or c.args.state.now.nums 3 0) 0 c.if-state-eq0.false) c.count_before.ensures
