-- An operator told by its bytes, as one number, for speed. No rule of document 01: proofs/ has what it is in its terms.
use Rattle.std.specs.Prelude.{ℕ, ◌+◌, ◌*◌, List, eqb, get_or, Option, None, Some}
use Rattle.laws.specs.Bools.{either, pick}
use Rattle.numbers.specs.Kinds.{number_of}
use Rattle.operators.specs.Operators.{found_at, look_one, look_three, look_two, ones, operator, or_else, threes, twos}
use Rattle.operators.specs.declared.Operator.{Operator}
use Rattle.text.specs.Characters.{hash, slash}

-- four times the kind's number and the length in bytes; 0 for no operator
abbrev pub packed : Option Operator → ℕ
packed (Some o) = number_of o.kind * 4 + o.end
packed None = 0

-- the operator with which the bytes a, b, c begin, with its length: three are tried before two, and two before one
unfoldable pub operator_by : ℕ → ℕ → ℕ → Option Operator
operator_by a b c = or_else (found_at (look_three threes a b c) 3) (or_else (found_at (look_two twos a b) 2) (found_at (look_one ones a) 1))

-- `#` and `/` are left out: a shebang and comments begin with them
unfoldable pub quick_of : ℕ → ℕ → ℕ → ℕ
quick_of a b c = pick (either (eqb a hash) (eqb a slash)) 0 (packed (operator_by a b c))

-- .. at a place of a source; past its end stands 0, with which no operator begins or goes on
unfoldable pub quick_at : List ℕ → ℕ → ℕ
quick_at s at = quick_of (get_or s at 0) (get_or s (at + 1) 0) (get_or s (at + 2) 0)
