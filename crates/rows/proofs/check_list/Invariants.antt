-- The invariant: what is left of the check gives the answer. Assumes nothing.
use Rattle.rows.proofs.Rows.{LeftOf}
use Rattle.rows.specs.Rows.{word_row}
use Rattle.rows.proofs.check_list.Given as goal

abbrev pub invariant-loop-n : goal.invariant-loop-n
invariant-loop-n l = LeftOf word_row l.rows l.n l.last
