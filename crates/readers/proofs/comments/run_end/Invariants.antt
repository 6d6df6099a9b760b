use Rattle.std.proofs.Common.{ℕ, Bool, ◌-◌, length}
use Rattle.readers.proofs.Scans.{Goes}
use Rattle.readers.specs.Readers.{Tests, run_step}
use Rattle.readers.specs.Scan.{scan}
use Rattle.text.specs.Utf8.{rest, width}
use Rattle.readers.proofs.comments.run_end.Given as goal

abbrev pub invariant-loop-value : goal.invariant-loop-value
invariant-loop-value g l = (f : ℕ → Bool) → Tests (goal.F-post g l.passes) f → Goes (run_step f) tt l.s l.p (scan (run_step f) width tt l.at (rest l.s l.at) l.at)

abbrev pub decreases-loop-value : goal.decreases-loop-value
decreases-loop-value g l = length l.s - l.p
