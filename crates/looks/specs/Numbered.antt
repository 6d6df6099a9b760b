-- Document 01, "The lookahead buffer": tokens by their numbers in the lent list, three words a token; past the list's end a word is 0.
use Rattle.std.specs.Prelude.{ℕ, zero, suc, ◌+◌, ◌-◌, ◌/◌, List, [], ◌∷◌, Bool, leb, eqb, get_or, length}
use Rattle.laws.specs.Bools.{pick, within}
use Rattle.rows.specs.Rows.{row_place, row_size}

-- a number is a u32. A list that 34 does not refuse has fewer tokens than that, since each ends past its start
unfoldable pub token_count : List ℕ → ℕ
token_count l = pick (leb (length l / row_size) 4294967295) (length l / row_size) 4294967295

abbrev pub kind_at : List ℕ → ℕ → ℕ
kind_at l i = get_or l (row_place i) 0

abbrev pub start_at : List ℕ → ℕ → ℕ
start_at l i = get_or l (row_place i + 1) 0

abbrev pub end_at : List ℕ → ℕ → ℕ
end_at l i = get_or l (row_place i + 2) 0

abbrev pub token_at : List ℕ → ℕ → List ℕ
token_at l i = kind_at l i ∷ start_at l i ∷ end_at l i ∷ []

-- where the last token ends
unfoldable pub list_end : List ℕ → ℕ
list_end l = pick (eqb (token_count l) 0) 0 (end_at l (token_count l - 1))

-- the end-of-file token: kind 67, a point at the list's end
abbrev pub eof_words : List ℕ → List ℕ
eof_words l = 67 ∷ list_end l ∷ list_end l ∷ []

-- white space: kinds 1 to 4
abbrev pub is_white : ℕ → Bool
is_white kind = within 1 4 kind

-- from the number i on, the first token of at most n that is no white space
unfoldable pub dark_from : ℕ → List ℕ → ℕ → ℕ
dark_from zero l i = i
dark_from (suc n) l i = pick (is_white (kind_at l i)) (dark_from n l (i + 1)) i

-- the next token from i on that is no white space, or the list's end
abbrev pub dark : List ℕ → ℕ → ℕ
dark l i = dark_from (token_count l - i) l i
