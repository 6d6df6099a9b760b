-- The bytes of a token list, 11 a record (document 01, "Stored token list"), and the writer's answer.
use Rattle.token.specs.Reads.{Counted}
use Rattle.std.specs.Prelude.{ℕ, ◌/◌, ◌%◌, List, [], ◌∷◌, ◌++◌}
use Rattle.rows.specs.Rows.{Row, list_check, list_rows, stored_in, unless_refused}

-- a word as four bytes, the lowest first
abbrev pub u32_bytes : ℕ → List ℕ
u32_bytes w = w % 256 ∷ w / 256 % 256 ∷ w / 65536 % 256 ∷ w / 16777216 % 256 ∷ []

-- the mark 54 4B, the kind, the start and the end; a kind is at most 66, and its byte is the kind
abbrev pub record_of : ℕ → ℕ → ℕ → List ℕ
record_of kind start end = 0x54 ∷ 0x4b ∷ kind % 256 ∷ (u32_bytes start ++ u32_bytes end)

unfoldable pub records_of : List Row → List ℕ
records_of [] = []
records_of (r ∷ rs) = record_of r.kind r.start r.end ++ records_of rs

-- the writer's answer to a token list, and the bytes that it writes
unfoldable pub write_of : List ℕ → ℕ → Counted
write_of l room = stored_in room (list_check l) (records_of (list_rows l))

unfoldable pub written_by : List ℕ → ℕ → List ℕ
written_by l room = unless_refused (write_of l room) (records_of (list_rows l))
