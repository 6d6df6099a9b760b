-- Document 01, "Form by location": the reader that holds the source slice and a place in it.
use Rattle.std.specs.Prelude.{ℕ, List, Option, Some, None}
use Rattle.std.specs.Borrow.{Bor}
use Rattle.source.specs.declared.Source.{Source}
use Rattle.text.specs.Utf8.{rest, scalar_at, second_at}
use Rattle.text.specs.declared.utf8.Scalar.{Scalar}

-- on a slice and a number: the place after an answer; where there is no scalar, the same place
abbrev pub after_scalar : Option Scalar → ℕ → ℕ
after_scalar (Some x) at = x.next
after_scalar None at = at

-- a new reader stands at place 0
abbrev pub new_of : Bor (List ℕ) → Source
new_of s = record { src = s; at = 0 }

-- where it stands
abbrev pub pos_of : Source → ℕ
pos_of it = it.at

-- peek: the scalar where it stands
abbrev pub peek_of : Source → Option Scalar
peek_of it = scalar_at it.src.now it.at

-- peek2: the scalar after that one, none where that one is none
abbrev pub peek2_of : Source → Option Scalar
peek2_of it = second_at it.src.now it.at

-- next answers the scalar where it stands
abbrev pub next_scalar_of : Source → Option Scalar
next_scalar_of it = scalar_at it.src.now it.at

-- .. and then the reader of the same source stands after that scalar; at the end it stays
abbrev pub moved_of : Source → Source
moved_of it = record { src = it.src; at = after_scalar (scalar_at it.src.now it.at) it.at }

-- the scalars from where it stands on, the Rust's `source.get(cursor..)?.chars()`
abbrev pub chars_of : Source → List ℕ
chars_of it = rest it.src.now it.at
