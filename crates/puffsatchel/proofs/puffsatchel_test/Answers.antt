use mathlib.Core.Path.{ap, ◌∙◌}
use Rattle.answers.specs.Told.{of_tested}
use Rattle.answers.proofs.Promises.{tells}
use Rattle.puffsatchel.proofs.puffsatchel_test.Goals as goal

pub returns : goal.returns
returns c = tells _ _ _ _ c.tell.ensures (c.from.ensures ∙ ap of_tested c.test_source.ensures)
