use Rattle.std.proofs.Common.{ℕ, Bool, ◌+◌, ◌≡◌, length}
use lib.ListN.{drop}
use Rattle.quick.specs.Tokens.{passing}
use Rattle.readers.specs.Readers.{Tests}
use Rattle.quick.proofs.tokens.run_end.Given as goal

abbrev pub invariant-loop-p : goal.invariant-loop-p
invariant-loop-p g l = (f : ℕ → Bool) → Tests (goal.F-post g l.passes) f → l.p + length (passing f (drop l.p l.s)) ≡ l.at + length (passing f (drop l.at l.s))
