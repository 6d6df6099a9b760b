use mathlib.Core.Path.{◌∙◌}
use Rattle.classes.proofs.Ascii.{pairs_hold}
use Rattle.classes.specs.Classes.{xid_start}
use Rattle.classes.proofs.is_xid_start.Goals as goal

pub returns : goal.returns
unfolding xid_start
returns c = c.in_ranges.ensures ∙ pairs_hold _ _
