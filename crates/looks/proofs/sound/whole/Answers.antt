use mathlib.Core.Path.{ap, ◌∙◌}
use Rattle.std.specs.Result.{is_ok}
use Rattle.looks.specs.Sound.{whole_by}
use Rattle.looks.proofs.sound.whole.Goals as goal

pub returns : goal.returns
unfolding whole_by
returns c = c.is_ok.ensures.value ∙ ap is_ok c.check_list.ensures
