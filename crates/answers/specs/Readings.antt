-- The readings by number, and what a call that takes one tells and writes.
use Rattle.std.specs.Prelude.{None, Option, Some, ℕ, List, [], eqb}
use Rattle.answers.specs.Told.{told_as}
use Rattle.answers.specs.declared.Told.{Told}
use Rattle.laws.specs.Bools.{pick}
use Rattle.readers.specs.Rules.{first_close, rune}
use Rattle.readers.specs.declared.reading.Reading.{Reading}

-- 1: comments end as in rune; 2: the first `*/` ends them
unfoldable pub reading_of : ℕ → Option Reading
reading_of n = pick (eqb n 1) (Some rune) (pick (eqb n 2) (Some first_close) None)

-- 6, a point at 0, before all else: the number names no reading, and nothing is written
abbrev pub tells_by : Option Reading → (Reading → Told) → Told
tells_by (Some g) f = f g
tells_by None f = told_as 6 0 0 0 0 0

abbrev pub writes_by : Option Reading → (Reading → List ℕ) → List ℕ
writes_by (Some g) f = f g
writes_by None f = []
