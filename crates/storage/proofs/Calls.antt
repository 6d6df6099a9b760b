-- Any two results that the promise of `write` or of `read` allows are equal. Assumes nothing.
use Rattle.token.specs.Reads.{Counted}
use Prim.Native.Nat.{ℕ}
use mathlib.Core.Path.{◌≡◌}
use mathlib.Core.List.{List}
use lib.Seq.{sets}
use lib.ListN.{length}
use Rattle.laws.proofs.Determined.{determined_both}
use Rattle.storage.specs.Reader.{read_by, read_of}
use Rattle.storage.specs.Writer.{write_of, written_by}

module _ (l out : List ℕ) (r q : Counted) (v w : List ℕ) where
  pub write_determined : (r ≡ write_of l (length out)) × (v ≡ sets out 0 (written_by l (length out))) → (q ≡ write_of l (length out)) × (w ≡ sets out 0 (written_by l (length out))) → (r ≡ q) × (v ≡ w)
  write_determined h k = determined_both r q v w h k

  pub read_determined : (r ≡ read_of l (length out)) × (v ≡ sets out 0 (read_by l (length out))) → (q ≡ read_of l (length out)) × (w ≡ sets out 0 (read_by l (length out))) → (r ≡ q) × (v ≡ w)
  read_determined h k = determined_both r q v w h k
