-- Each call of the face: what it tells, and the lent memory that it leaves.
use Rattle.std.specs.Prelude.{ℕ, List, length}
use Rattle.std.proofs.lemmas.List.Edits.{sets}
use Rattle.answers.specs.Readings.{reading_of, tells_by, writes_by}
use Rattle.answers.specs.Told.{of_listed, of_read, of_tested}
use Rattle.answers.specs.declared.Told.{Told}
use Rattle.findings.specs.Findings.{findings_of, stored_findings}
use Rattle.lexer.specs.Next.{next_at, read_at}
use Rattle.listing.specs.Listing.{list_of, stored_of}
use Rattle.outline.specs.Outline.{outline_of, outline_written}
use Rattle.source_test.specs.Source.{source_test}

-- goes up with every change of a call, of a number or of what is promised
abbrev pub version : ℕ
version = 6

abbrev pub test_tells : List ℕ → Told
test_tells s = of_tested (source_test s)

-- those that read a token take the number of a reading
abbrev pub read_tells : ℕ → List ℕ → ℕ → Told
read_tells n s at = tells_by (reading_of n) (λ g. of_read (read_at g s at))

abbrev pub next_tells : ℕ → List ℕ → ℕ → Told
next_tells n s at = tells_by (reading_of n) (λ g. of_read (next_at g s at))

abbrev pub list_tells : ℕ → List ℕ → List ℕ → Told
list_tells n s store = tells_by (reading_of n) (λ g. of_listed (list_of g s (length store)))

abbrev pub list_leaves : ℕ → List ℕ → List ℕ → List ℕ
list_leaves n s store = sets store 0 (writes_by (reading_of n) (λ g. stored_of g s (length store)))

abbrev pub outline_tells : ℕ → List ℕ → List ℕ → Told
outline_tells n s out = tells_by (reading_of n) (λ g. of_tested (outline_of g s (length out)))

abbrev pub outline_leaves : ℕ → List ℕ → List ℕ → List ℕ
outline_leaves n s out = sets out 0 (writes_by (reading_of n) (λ g. outline_written g s (length out)))

abbrev pub findings_tells : ℕ → List ℕ → List ℕ → Told
findings_tells n s store = tells_by (reading_of n) (λ g. of_listed (findings_of g s (length store)))

abbrev pub findings_leaves : ℕ → List ℕ → List ℕ → List ℕ
findings_leaves n s store = sets store 0 (writes_by (reading_of n) (λ g. stored_findings g s (length store)))
