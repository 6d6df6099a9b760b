-- The scalars since the line began. Assumes nothing.
use Prim.Native.Nat.{ℕ}
use mathlib.Core.Path.{◌≡◌, ap, ◌∙◌}
use native.Mathlib.Omega.{arith}
use Rattle.places.proofs.Counts.{column_most}
use Rattle.places.specs.Lines.{begins, count_in, start_of}
use Rattle.places.proofs.line.column.Goals as goal

pub returns : goal.returns
returns c = λ near. let e : c.scalars.result ≡ count_in begins c.args.s.now (start_of c.args.s.now c.args.at) c.args.at = c.scalars.ensures ∙ ap (λ (n : ℕ). count_in begins c.args.s.now n c.args.at) c.line_start.ensures in omega (arith, c.saturating_add.ensures, e, column_most c.args.s.now c.args.at)
