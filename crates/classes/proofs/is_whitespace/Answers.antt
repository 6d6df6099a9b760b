use mathlib.Core.Path.{◌∙◌}
use Rattle.classes.proofs.Ascii.{pairs_hold}
use Rattle.classes.specs.Classes.{white_space}
use Rattle.classes.proofs.is_whitespace.Goals as goal

pub returns : goal.returns
unfolding white_space
returns c = c.in_ranges.ensures ∙ pairs_hold _ _
