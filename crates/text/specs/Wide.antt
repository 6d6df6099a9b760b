-- Sequences of two bytes or more by value, for speed. No rule of a document: proofs/ has what they are in RFC 3629's terms.
use Rattle.std.specs.Prelude.{ℕ, Option, Some, None, leb}
use Rattle.laws.specs.Bools.{pick}
use Rattle.text.specs.Utf8.{Lead, bad, four_of, seq, three_of, two_of}

-- the scalar of a sequence of two bytes or more by value; its length, by its first byte
abbrev pub value_of : Lead → Option ℕ
value_of (seq v e) = Some v
value_of bad = None

unfoldable pub wide_of : ℕ → ℕ → ℕ → ℕ → Option ℕ
wide_of a b c d = value_of (pick (leb a 0xdf) (two_of a b) (pick (leb a 0xef) (three_of a b c) (four_of a b c d)))

abbrev pub step_of : ℕ → ℕ
step_of a = pick (leb a 0xdf) 2 (pick (leb a 0xef) 3 4)
