use mathlib.Core.Path.{◌∙◌}
use Rattle.looks.proofs.Numbers.{count_tried}
use Rattle.looks.proofs.list.count_of.Goals as goal

pub returns : goal.returns
returns c = c.unwrap_or.ensures ∙ count_tried c.args.list.now c.try_from.result c.try_from.ensures
