-- Each token ends past its start and inside the source. Assumes nothing.
use Rattle.std.proofs.Common.{◌-◌, ◌≤◌, length}
use Rattle.printing.proofs.put_tokens.Given as goal

abbrev pub invariant-loop-token : goal.invariant-loop-token
invariant-loop-token g l = (l.at ≤ length l.s) × (l.count ≤ l.at)

abbrev pub decreases-loop-token : goal.decreases-loop-token
decreases-loop-token g l = length l.s - l.at
