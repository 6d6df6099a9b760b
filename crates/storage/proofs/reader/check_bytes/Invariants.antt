-- The invariant: what is left of the check gives the answer. Assumes nothing.
use Rattle.rows.proofs.Rows.{LeftOf}
use Rattle.storage.specs.Reader.{byte_row}
use Rattle.storage.proofs.reader.check_bytes.Given as goal

abbrev pub invariant-loop-n : goal.invariant-loop-n
invariant-loop-n l = LeftOf byte_row l.records l.n l.last
