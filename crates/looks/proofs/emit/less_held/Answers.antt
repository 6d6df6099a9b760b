use borrow.Author.Tests.{eq-eqb, ne_eqb}
use Rattle.looks.specs.Front.{less_held}
use Rattle.looks.proofs.emit.less_held.Goals as goal

pub returns-then-nums-eq0 : goal.returns-then-nums-eq0
unfolding less_held
returns-then-nums-eq0 c = rw (eq-eqb c.args.nums.held_len 0 c.if-nums-eq0.true)

pub returns : goal.returns
unfolding less_held
returns c = rw (ne_eqb c.args.nums.held_len 0 c.if-nums-eq0.false, c.slot.ensures)
