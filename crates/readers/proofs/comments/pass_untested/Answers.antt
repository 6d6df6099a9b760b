use mathlib.Core.Path.{◌∙◌}
use Rattle.readers.proofs.comments.pass_untested.Goals as goal

pub returns-in-Crate : goal.returns-in-Crate
returns-in-Crate c = c.pass_one-in-Crate.ensures ∙ simp (c.in-Crate.is, c.pass_one.ensures)

pub returns-in-First : goal.returns-in-First
returns-in-First c = simp c.in-First.is
