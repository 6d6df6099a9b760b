-- RFC 3629: the scalars of the longest well-formed prefix of a byte list, and the places at which they stand.
use Rattle.std.specs.Prelude.{ℕ, zero, suc, ◌+◌, ◌*◌, ◌%◌, List, [], ◌∷◌, Bool, true, false, leb, eqb, drop, get_or, Option, Some, None}
use Rattle.laws.specs.Bools.{both, pick, within}
use Rattle.text.specs.declared.utf8.Scalar.{Scalar}

-- what a byte list starts with: a scalar and how many bytes follow its first one, or no well-formed sequence
pub data Lead : Type 0 where
  seq : ℕ → ℕ → Lead
  bad : Lead

abbrev pub seq_if : Bool → ℕ → ℕ → Lead
seq_if true v e = seq v e
seq_if false v e = bad

-- section 4, UTF8-tail
abbrev pub tail : ℕ → Bool
tail b = within 0x80 0xbf b

-- section 4, UTF8-3 and UTF8-4: the second byte's bounds, by the first byte
abbrev pub low_of : ℕ → ℕ
low_of a = pick (eqb a 0xe0) 0xa0 (pick (eqb a 0xf0) 0x90 0x80)

abbrev pub high_of : ℕ → ℕ
high_of a = pick (eqb a 0xed) 0x9f (pick (eqb a 0xf4) 0x8f 0xbf)

unfoldable pub second_fits : ℕ → ℕ → Bool
second_fits a b = within (low_of a) (high_of a) b

-- sections 3 and 4, a length each: which bytes may stand, and the scalar's bits
unfoldable pub two_of : ℕ → ℕ → Lead
two_of a b = seq_if (both (within 0xc2 0xdf a) (tail b)) (a % 32 * 64 + b % 64) 1

unfoldable pub three_of : ℕ → ℕ → ℕ → Lead
three_of a b c = seq_if (both (within 0xe0 0xef a) (both (second_fits a b) (tail c))) (a % 16 * 4096 + b % 64 * 64 + c % 64) 2

unfoldable pub four_of : ℕ → ℕ → ℕ → ℕ → Lead
four_of a b c d =
    seq_if (both (within 0xf0 0xf4 a) (both (second_fits a b) (both (tail c) (tail d))))
    (a % 8 * 262144 + b % 64 * 4096 + c % 64 * 64 + d % 64) 3

-- the sequence that four bytes start with
unfoldable pub lead_of : ℕ → ℕ → ℕ → ℕ → Lead
lead_of a b c d =
    pick (leb a 0x7f) (seq a 0)
    (pick (leb a 0xdf) (two_of a b) (pick (leb a 0xef) (three_of a b c) (four_of a b c d)))

-- the sequence that a byte list starts with: past the end stands 0, which continues nothing
unfoldable pub first : List ℕ → Lead
first [] = bad
first (a ∷ s) = lead_of a (get_or s 0 0) (get_or s 1 0) (get_or s 2 0)

-- the scalars of the longest well-formed prefix of what follows k bytes
unfoldable pub from : ℕ → List ℕ → List ℕ
from k [] = []
from (suc k) (a ∷ s) = from k s
from zero (a ∷ s) = elim (first (a ∷ s)) [ bad ↦ [] | seq v e ↦ v ∷ from e s ]

unfoldable pub decode : List ℕ → List ℕ
decode s = from 0 s

-- how many bytes a scalar takes (section 3, the table)
unfoldable pub width : ℕ → ℕ
width v = pick (leb v 0x7f) 1 (pick (leb v 0x7ff) 2 (pick (leb v 0xffff) 3 4))

-- the scalars from a place on
unfoldable pub rest : List ℕ → ℕ → List ℕ
rest s at = decode (drop at s)

-- the place after the scalars cs, the first of which stands at p
unfoldable pub after : List ℕ → ℕ → ℕ
after [] p = p
after (v ∷ cs) p = after cs (p + width v)

-- a scalar and the place after it
abbrev pub scalar_of : ℕ → ℕ → Scalar
scalar_of v n = record { value = v; next = n }

-- the first of the scalars cs and the place after it; the first stands at p
unfoldable pub head_at : List ℕ → ℕ → Option Scalar
head_at [] p = None
head_at (v ∷ cs) p = Some (scalar_of v (p + width v))

unfoldable pub scalar_at : List ℕ → ℕ → Option Scalar
scalar_at s at = head_at (rest s at) at

unfoldable pub second_of : List ℕ → ℕ → Option Scalar
second_of [] p = None
second_of (v ∷ cs) p = head_at cs (p + width v)

unfoldable pub second_at : List ℕ → ℕ → Option Scalar
second_at s at = second_of (rest s at) at
