-- A copy goes on within the file. Assumes nothing.
use Rattle.std.proofs.Common.{◌<◌, ◌≡◌, length}
use Rattle.outline_runs.proofs.sources.Source.damage.Given as goal

abbrev pub invariant-loop : goal.invariant-loop
invariant-loop l = (l.at < length l.file) × (l.n ≡ length l.file)
