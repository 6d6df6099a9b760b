-- The rows of a token list, three words a token (kind number, start, end), their faults, and the answer of what writes or reads them (document 01, "Stored token list").
use Rattle.std.specs.Prelude.{Err, Ok, ℕ, zero, suc, ◌+◌, ◌*◌, ◌/◌, ◌%◌, List, [], ◌∷◌, Bool, true, leb, ltb, eqb, drop, get_or, length}
use Rattle.token.specs.declared.reason.Reason.TheVariants.{BadKind, BadLength, BadMark, Gap, NoRoom}
use Rattle.laws.specs.Bools.{both, pick, within}
use Rattle.token.specs.Reads.{point_refusal, Tested, Counted}

-- one token, as it stands in a token list or in a stored record
pub record Row : Type 0 where
  pub marked : Bool
  pub kind : ℕ
  pub start : ℕ
  pub end : ℕ

-- a token takes three words of a list: its kind's number, its start and its end
abbrev pub row_size : ℕ
row_size = 3

-- so those of token i begin here
abbrev pub row_place : ℕ → ℕ
row_place i = i * row_size

-- the words of a token, and more after them
abbrev pub row_words : ℕ → ℕ → ℕ → List ℕ → List ℕ
row_words kind start end more = kind ∷ (start ∷ (end ∷ more))

-- three words, which have no mark to miss
abbrev pub word_row : List ℕ → Row
word_row l = record { marked = true; kind = get_or l 0 0; start = get_or l 1 0; end = get_or l 2 0 }

-- n rows of the given size, one after the other
unfoldable pub rows_of : (List ℕ → Row) → ℕ → ℕ → List ℕ → List Row
rows_of row size zero s = []
rows_of row size (suc n) s = row s ∷ rows_of row size n (drop size s)

abbrev pub list_rows : List ℕ → List Row
list_rows l = rows_of word_row row_size (length l / row_size) l

-- 42: a kind outside 1 to 66. 43: a record that does not start where the one before ended, or whose end is not past its start
unfoldable pub record_check : ℕ → ℕ → ℕ → ℕ → ℕ → Tested
record_check n last kind start end =
    pick (within 1 66 kind)
    (pick (both (eqb start last) (ltb start end)) (Ok tt) (Err (point_refusal Gap n)))
    (Err (point_refusal BadKind n))

-- 41, before these: no mark
abbrev pub row_check : ℕ → ℕ → Row → Tested
row_check n last r = pick r.marked (record_check n last r.kind r.start r.end) (Err (point_refusal BadMark n))

abbrev pub and_then : Tested → Tested → Tested
and_then (Ok u) next = next
and_then (Err r) next = Err r

-- record by record, from the record n on, where the one before ended at `last`
unfoldable pub rows_check : ℕ → ℕ → List Row → Tested
rows_check n last [] = Ok tt
rows_check n last (r ∷ rs) = and_then (row_check n last r) (rows_check (n + 1) r.end rs)

-- 40, first: a length that is no whole number of rows. The first row starts at 0
unfoldable pub list_check : List ℕ → Tested
list_check l = pick (eqb (length l % row_size) 0) (rows_check 0 0 (list_rows l)) (Err (point_refusal BadLength 0))

-- 3, last: what is to be written does not fit
abbrev pub stored_in : ℕ → Tested → List ℕ → Counted
stored_in room (Ok u) out = pick (leb (length out) room) (Ok (length out)) (Err (point_refusal NoRoom 0))
stored_in room (Err r) out = Err r

-- a refusal writes nothing
abbrev pub unless_refused : Counted → List ℕ → List ℕ
unless_refused (Ok count) out = out
unless_refused (Err r) out = []
