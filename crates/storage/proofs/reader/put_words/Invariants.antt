-- The invariant: what is left, written after what is stored, gives the whole. Assumes nothing.
use Prim.Native.Nat.{◌*◌}
use Rattle.rows.proofs.Puts.{Puts}
use Rattle.storage.specs.Reader.{byte_row, list_words}
use Rattle.storage.proofs.reader.put_words.Given as goal

abbrev pub invariant-loop-n : goal.invariant-loop-n
invariant-loop-n l = Puts list_words byte_row l.records l.initial.out l.out l.n (l.n * 3)
