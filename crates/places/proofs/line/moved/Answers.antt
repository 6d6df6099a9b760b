-- Lines and columns on from a place that stands, or back. Assumes nothing.
use native.Mathlib.Omega.{arith}
use borrow.Author.Rules.{rules}
use Rattle.places.proofs.Counts.{column_most, column_on, count_most, in_most, line_on}
use Rattle.places.specs.Lines.{begins, is_feed}
use Rattle.places.proofs.line.moved.Goals as goal

pub returns-then-to-p : goal.returns-then-to-p
returns-then-to-p c = (search rules, λ small near stands. record { line = omega (arith, c.saturating_sub.ensures, c.feeds.ensures, stands.line, line_on c.args.s.now c.args.to c.args.p.at (omega arith)); column = c.column.ensures near })

pub returns-then-count-eq0 : goal.returns-then-count-eq0
returns-then-count-eq0 c = (search rules, λ small near stands. record { line = omega (arith, c.feeds-count.ensures, stands.line, line_on c.args.s.now c.args.p.at c.args.to (omega arith)); column = omega (arith, c.saturating_add.ensures, stands.column, column_most c.args.s.now c.args.p.at, in_most begins c.args.s.now c.args.p.at c.args.to (omega arith), c.scalars.ensures, column_on c.args.s.now c.args.p.at c.args.to (omega arith) (omega (arith, c.feeds-count.ensures))) })

pub returns : goal.returns
returns c = (search rules, λ small near stands. record { line = omega (arith, c.saturating_add-2.ensures, count_most is_feed c.args.s.now c.args.p.at, in_most is_feed c.args.s.now c.args.p.at c.args.to (omega arith), c.feeds-count.ensures, stands.line, line_on c.args.s.now c.args.p.at c.args.to (omega arith)); column = c.column-2.ensures near })
