use mathlib.Core.Path.{sym, ◌∙◌}
use Rattle.looks.proofs.Gathers.{queued_more, queued_none}
use Rattle.looks.proofs.fill.queue.Goals as goal

pub loop-i-preserved : goal.loop-i-preserved
loop-i-preserved c = rw c.wide.ensures.0 (sym (queued_more _ c.args.at c.args.from c.args.count c.loop-i.i c.loop-i-test.true) ∙ c.loop-i.invariant)

pub returns : goal.returns
returns c = sym (queued_none _ c.args.at c.args.from c.args.count c.loop-i.i c.loop-i-test.false) ∙ c.loop-i.invariant
