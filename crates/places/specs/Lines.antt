-- Lines and columns of a source, by its bytes: LF ends a line, and every byte but a tail byte begins a scalar.
use Rattle.std.specs.Prelude.{ℕ, zero, suc, ◌+◌, ◌-◌, ◌≡◌, List, [], Bool, not, leb, eqb, drop, get_or, length, take}
use Rattle.laws.specs.Bools.{pick}
use Rattle.places.specs.declared.line.Place.{Place}
use Rattle.text.specs.Utf8.{from, tail}

abbrev pub is_feed : ℕ → Bool
is_feed b = eqb b 10

abbrev pub begins : ℕ → Bool
begins b = not (tail b)

-- how many bytes before a place meet a test
unfoldable pub count_to : (ℕ → Bool) → List ℕ → ℕ → ℕ
count_to f s zero = 0
count_to f s (suc n) = pick (f (get_or s n 0)) 1 0 + count_to f s n

-- and how many from one place to before another
abbrev pub count_in : (ℕ → Bool) → List ℕ → ℕ → ℕ → ℕ
count_in f s from to = count_to f s (from + (to - from)) - count_to f s from

-- the bytes there; nothing where that is no part of the source
abbrev pub part_of : List ℕ → ℕ → ℕ → List ℕ
part_of s from to = pick (leb to (length s)) (pick (leb from to) (take (to - from) (drop from s)) []) []

-- the place after the last LF before a place
unfoldable pub start_of : List ℕ → ℕ → ℕ
start_of s zero = 0
start_of s (suc n) = pick (is_feed (get_or s n 0)) (suc n) (start_of s n)

-- both count from 1
abbrev pub line_number : List ℕ → ℕ → ℕ
line_number s at = 1 + count_to is_feed s at

abbrev pub column_of : List ℕ → ℕ → ℕ
column_of s at = 1 + count_in begins s (start_of s at) at

-- a place with its line and its column
pub record Stands (s : List ℕ) (p : Place) : Type 0 where
  pub line : p.line ≡ line_number s p.at
  pub column : p.column ≡ column_of s p.at
