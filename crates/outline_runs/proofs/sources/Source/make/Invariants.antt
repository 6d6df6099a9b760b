-- Each character takes a byte or more. Assumes nothing.
use Rattle.std.proofs.Common.{◌-◌}
use Rattle.outline_runs.proofs.sources.Source.make.Given as goal

abbrev pub decreases-loop-self : goal.decreases-loop-self
decreases-loop-self l = 60 - l.self.length
