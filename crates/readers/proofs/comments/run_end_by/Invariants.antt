use Rattle.std.proofs.Common.{◌-◌, length}
use Rattle.readers.proofs.Scans.{Goes}
use Rattle.readers.specs.Readers.{run_step}
use Rattle.readers.specs.Scan.{scan}
use Rattle.text.specs.Utf8.{rest, width}
use Rattle.readers.proofs.comments.run_end_by.Given as goal

abbrev pub invariant-loop-value : goal.invariant-loop-value
invariant-loop-value g l = Goes (run_step g.T.Test.passing) tt l.s l.p (scan (run_step g.T.Test.passing) width tt l.at (rest l.s l.at) l.at)

abbrev pub decreases-loop-value : goal.decreases-loop-value
decreases-loop-value g l = length l.s - l.p
