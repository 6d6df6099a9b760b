use mathlib.Core.Path.{◌∙◌}
use Rattle.looks.proofs.Gathers.{gather_last, gather_more}
use Rattle.looks.proofs.fill.gather_to.Goals as goal

pub returns-then-to-count : goal.returns-then-to-count
returns-then-to-count c = gather_more c.args.to c.args.count c.args.nums c.if-to-count.true _ (c.wide.ensures.0 ∙ c.white_at.ensures)

pub returns-else-to-count : goal.returns-else-to-count
returns-else-to-count c = gather_last c.args.to c.args.count c.args.nums c.if-to-count.false _ (c.wide.ensures.0 ∙ c.white_at.ensures)
