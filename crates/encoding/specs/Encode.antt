-- RFC 3629: the bytes of a scalar, and of a list of scalars.
use Rattle.std.specs.Prelude.{ℕ, ◌+◌, ◌/◌, ◌%◌, ◌≡◌, List, [], ◌∷◌, ◌++◌, Bool, true, leb, length, replicate, take}
use Rattle.encoding.specs.declared.Encoded.{Encoded}
use Rattle.laws.specs.Bools.{either, pick, within}

-- section 3: a scalar is at most 10FFFF, and none of the surrogates D800 to DFFF
abbrev pub is_scalar : ℕ → Bool
is_scalar v = either (leb v 0xd7ff) (within 0xe000 0x10ffff v)

-- section 3, the table: a tail byte has the six low bits of what is left
abbrev pub tail_of : ℕ → ℕ
tail_of v = 0x80 + v % 64

-- section 3, the table, a row each
unfoldable pub bytes_of : ℕ → List ℕ
bytes_of v =
    pick (leb v 0x7f) (v ∷ [])
    (pick (leb v 0x7ff) ((0xc0 + v / 64) ∷ tail_of v ∷ [])
    (pick (leb v 0xffff) ((0xe0 + v / 4096) ∷ tail_of (v / 64) ∷ tail_of v ∷ [])
    ((0xf0 + v / 262144) ∷ tail_of (v / 4096) ∷ tail_of (v / 64) ∷ tail_of v ∷ [])))

-- the bytes of a scalar; none for what is no scalar
unfoldable pub encode_of : ℕ → List ℕ
encode_of v = pick (is_scalar v) (bytes_of v) []

-- the bytes of scalars, one after the other
unfoldable pub encode_all : List ℕ → List ℕ
encode_all [] = []
encode_all (v ∷ cs) = encode_of v ++ encode_all cs

-- each number of the list is a scalar
unfoldable pub AllScalar : List ℕ → Type 0
AllScalar [] = Unit {0}
AllScalar (v ∷ cs) = (is_scalar v ≡ true) × AllScalar cs

-- up to four bytes as `encode` gives them: how many, and 0 after them
abbrev pub padded : List ℕ → Encoded
padded l = record { len = length l; bytes = take 4 (l ++ replicate 4 0) }

unfoldable pub encoded_of : ℕ → Encoded
encoded_of v = padded (encode_of v)
