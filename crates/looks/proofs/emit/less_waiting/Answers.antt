use Rattle.looks.specs.Front.{less_waiting}
use Rattle.looks.proofs.emit.less_waiting.Goals as goal

pub returns : goal.returns
unfolding less_waiting
returns c = rw c.slot.ensures
