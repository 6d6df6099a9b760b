-- What the call `outline` leaves in a lent buffer: the written bytes at its front, and all others as they were.
use Rattle.std.specs.Prelude.{ℕ, List, length}
use Rattle.std.proofs.lemmas.List.Edits.{sets}
use Rattle.listing.specs.Listing.{stored_of}
use Rattle.outline.specs.Outline.{outline_written}
use Rattle.readers.specs.declared.reading.Reading.{Reading}

abbrev pub outline_left : Reading → List ℕ → List ℕ → List ℕ
outline_left g s out = sets out 0 (outline_written g s (length out))

-- the same of `list` and a store
abbrev pub list_left : Reading → List ℕ → List ℕ → List ℕ
list_left g s out = sets out 0 (stored_of g s (length out))
