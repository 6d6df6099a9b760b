use Prim.Native.Nat.{◌-◌, ◌≤◌}
use mathlib.Core.Path.{◌≡◌}
use lib.ListN.{length}
use Rattle.findings.specs.Findings.{onward, under_first}
use Rattle.lexer.specs.Next.{next_at}
use Rattle.readers.specs.Rules.{rules_of}
use Rattle.families.specs.Tokens.{tokens_at}
use Rattle.findings.proofs.walk.onward.Given as goal

abbrev pub invariant-loop-read : goal.invariant-loop-read
invariant-loop-read l = (l.read ≡ next_at (under_first l.reading) l.s l.place) × (l.place ≤ length l.s) × (onward l.at l.place (tokens_at (rules_of (under_first l.reading)) l.s l.place) ≡ onward l.at l.initial.place (tokens_at (rules_of (under_first l.reading)) l.s l.initial.place))

abbrev pub decreases-loop-read : goal.decreases-loop-read
decreases-loop-read l = length l.s - l.place
