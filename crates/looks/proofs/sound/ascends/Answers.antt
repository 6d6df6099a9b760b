use mathlib.Core.Path.{sym, ◌∙◌}
use lib.ListN.{length}
use borrow.Author.Tests.{not-false, not-true}
use Rattle.looks.proofs.Sounds.{ascends_end, ascends_fail, ascends_more}
use Rattle.looks.proofs.sound.ascends.Goals as goal

pub returns-then-not-follows : goal.returns-then-not-follows
returns-then-not-follows c = sym (ascends_fail c.args.count c.args.at c.loop-i.i c.loop-i-test.true c.args.white c.args.list.now (length c.args.ring.now) c.args.ring.now c.loop-i.low c.args.top (sym c.follows.ensures ∙ not-true _ c.if-not-follows.true-raw)) ∙ c.loop-i.invariant

pub loop-i-preserved : goal.loop-i-preserved
loop-i-preserved c = rw c.wide-low.ensures.0 (sym (ascends_more c.args.count c.args.at c.loop-i.i c.loop-i-test.true c.args.white c.args.list.now (length c.args.ring.now) c.args.ring.now c.loop-i.low c.args.top (sym c.follows.ensures ∙ not-false _ c.if-not-follows.false-raw)) ∙ c.loop-i.invariant)

pub returns : goal.returns
returns c = sym (ascends_end c.args.count c.args.at c.loop-i.i c.loop-i-test.false c.args.white c.args.list.now (length c.args.ring.now) c.args.ring.now c.loop-i.low c.args.top) ∙ c.loop-i.invariant
