-- What is left to read falls. Assumes nothing.
use Rattle.replay.proofs.skip.Given as goal

abbrev pub decreases-loop-source : goal.decreases-loop-source
decreases-loop-source l = l.left
