-- Each call for bodies and stored lists: what it tells, and the lent memory that it leaves.
use Rattle.std.specs.Prelude.{ℕ, List, length}
use Rattle.std.proofs.lemmas.List.Edits.{sets}
use Rattle.answers.specs.Told.{form_of, formed, of_counted}
use Rattle.answers.specs.declared.Told.{Told}
use Rattle.storage.specs.Reader.{read_by, read_of}
use Rattle.storage.specs.Writer.{write_of, written_by}

abbrev pub unescape_tells : ℕ → List ℕ → List ℕ → Told
unescape_tells form s out = of_counted (formed (form_of form) s (length out)).answer

abbrev pub unescape_leaves : ℕ → List ℕ → List ℕ → List ℕ
unescape_leaves form s out = sets out 0 (formed (form_of form) s (length out)).bytes

abbrev pub store_tells : List ℕ → List ℕ → Told
store_tells l out = of_counted (write_of l (length out))

abbrev pub store_leaves : List ℕ → List ℕ → List ℕ
store_leaves l out = sets out 0 (written_by l (length out))

abbrev pub load_tells : List ℕ → List ℕ → Told
load_tells s out = of_counted (read_of s (length out))

abbrev pub load_leaves : List ℕ → List ℕ → List ℕ
load_leaves s out = sets out 0 (read_by s (length out))
