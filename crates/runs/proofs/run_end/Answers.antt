use Prim.Native.Nat.{◌+◌}
use mathlib.Core.Path.{sym, ap, ◌∙◌}
use mathlib.Core.Bool.{Bool}
use lib.ListN.{drop, length}
use Rattle.runs.specs.Runs.{plain_end}
use Rattle.runs.proofs.run_end.Goals as goal

pub returns-then-bytes : goal.returns-then-bytes
returns-then-bytes c = c.low_end.ensures ∙ ap (λ (b : Bool). c.args.at + length (plain_end b (drop c.args.at c.args.s.now))) (sym c.if-bytes.true)

pub returns : goal.returns
returns c = c.bare_end-end.ensures ∙ ap (λ (b : Bool). c.args.at + length (plain_end b (drop c.args.at c.args.s.now))) (sym c.if-bytes.false)
