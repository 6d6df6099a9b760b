-- The invariant: what is left, written after what is stored, gives the whole. Assumes nothing.
use Prim.Native.Nat.{◌*◌}
use Rattle.rows.proofs.Puts.{Puts}
use Rattle.rows.specs.Rows.{word_row}
use Rattle.storage.specs.Writer.{records_of}
use Rattle.storage.proofs.writer.put_records.Given as goal

abbrev pub invariant-loop-n : goal.invariant-loop-n
invariant-loop-n l = Puts records_of word_row l.rows l.initial.out l.out l.n (l.n * 11)
