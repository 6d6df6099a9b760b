-- The token list of stored bytes, 11 a record (document 01, "Stored token list"), and the reader's answer.
use Rattle.std.specs.Prelude.{Err, ℕ, ◌+◌, ◌*◌, ◌/◌, ◌%◌, List, [], ◌∷◌, ◌++◌, eqb, get_or, length}
use Rattle.token.specs.declared.reason.Reason.TheVariants.{BadLength}
use Rattle.laws.specs.Bools.{both, pick}
use Rattle.rows.specs.declared.Record.{Record}
use Rattle.rows.specs.Rows.{Row, row_words, rows_check, rows_of, stored_in, unless_refused}
use Rattle.token.specs.Reads.{point_refusal, Tested, Counted}

-- four bytes as a word, the lowest first
abbrev pub u32_of : ℕ → ℕ → ℕ → ℕ → ℕ
u32_of a b c d = a + b * 256 + c * 65536 + d * 16777216

-- the word whose lowest byte stands at p
abbrev pub u32_at : List ℕ → ℕ → ℕ
u32_at s p = u32_of (get_or s p 0) (get_or s (p + 1) 0) (get_or s (p + 2) 0) (get_or s (p + 3) 0)

-- what a record of 11 bytes says behind its mark
abbrev pub told_by : List ℕ → Record
told_by s = record { kind = get_or s 2 0; start = u32_at s 3; end = u32_at s 7 }

-- 11 bytes: the mark 54 4B, the kind, the start and the end
abbrev pub byte_row : List ℕ → Row
byte_row s = record { marked = both (eqb (get_or s 0 0) 0x54) (eqb (get_or s 1 0) 0x4b); kind = (told_by s).kind; start = (told_by s).start; end = (told_by s).end }

abbrev pub stored_rows : List ℕ → List Row
stored_rows s = rows_of byte_row 11 (length s / 11) s

-- the words of a token
abbrev pub token_words : Row → List ℕ
token_words r = row_words r.kind r.start r.end []

unfoldable pub list_words : List Row → List ℕ
list_words [] = []
list_words (r ∷ rs) = token_words r ++ list_words rs

-- 40, first: a length that is no whole number of records. The first record starts at 0
unfoldable pub bytes_check : List ℕ → Tested
bytes_check s = pick (eqb (length s % 11) 0) (rows_check 0 0 (stored_rows s)) (Err (point_refusal BadLength 0))

-- the reader's answer to bytes, and the words that it writes
unfoldable pub read_of : List ℕ → ℕ → Counted
read_of s room = stored_in room (bytes_check s) (list_words (stored_rows s))

unfoldable pub read_by : List ℕ → ℕ → List ℕ
read_by s room = unless_refused (read_of s room) (list_words (stored_rows s))
