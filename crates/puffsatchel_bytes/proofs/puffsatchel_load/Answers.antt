use mathlib.Core.Path.{ap, ◌∙◌}
use Rattle.answers.specs.Told.{of_counted}
use Rattle.answers.proofs.Promises.{tells}
use Rattle.puffsatchel_bytes.proofs.puffsatchel_load.Goals as goal

pub returns : goal.returns
returns c = let w = tells _ _ _ _ c.tell.ensures (c.from.ensures ∙ ap of_counted c.read.ensures.0) in (w.0, c.read.ensures.1, w.1)
