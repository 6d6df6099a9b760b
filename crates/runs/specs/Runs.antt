-- Fast ways through a body: runs of bytes that stand for themselves, and escapes of two bytes by value. They are no rules of document 01; proofs/ has what they are in its terms.
use Rattle.std.specs.Prelude.{ℕ, ◌+◌, ◌-◌, ◌%◌, List, [], ◌∷◌, Bool, true, false, leb, eqb, get_or}
use Rattle.escapes.specs.declared.Escape.{Escape}
use Rattle.escapes.specs.declared.Escape.TheVariants.{Skipped}
use Rattle.items.specs.Items.{item_of}
use Rattle.items.specs.declared.Form.{Form}
use Rattle.laws.specs.Bools.{pick}
use Rattle.text.specs.Utf8.{width}

-- the bytes before the first backslash: in text each scalar among them stands for itself
unfoldable pub bare_of : List ℕ → List ℕ
bare_of [] = []
bare_of (b ∷ s) = elim (eqb b 0x5c) [ true ↦ [] | false ↦ b ∷ bare_of s ]

-- .. and before the first above 0x7f
unfoldable pub ascii_of : List ℕ → List ℕ
ascii_of [] = []
ascii_of (b ∷ s) = elim (leb b 0x7f) [ true ↦ b ∷ ascii_of s | false ↦ [] ]

-- the bytes that stand for themselves, in bytes or in text
abbrev pub plain_end : Bool → List ℕ → List ℕ
plain_end bytes s = pick bytes (ascii_of (bare_of s)) (bare_of s)

-- the byte after a backslash at a place, 0 where none stands there
unfoldable pub escaped_at : List ℕ → ℕ → ℕ
escaped_at s at = pick (eqb (get_or s at 0) 0x5c) (get_or s (at + 1) 0) 0

-- one more than what a byte after a backslash stands for where the escape is these two bytes: 0x80 more again where only templates have it, and 0xff for no such escape
unfoldable pub short_of : ℕ → ℕ
short_of v =
    pick (eqb v 0x27) 0x28
    (pick (eqb v 0x22) 0x23
    (pick (eqb v 0x6e) 0x0b
    (pick (eqb v 0x72) 0x0e
    (pick (eqb v 0x74) 0x0a
    (pick (eqb v 0x5c) 0x5d
    (pick (eqb v 0x30) 0x01
    (pick (eqb v 0x24) 0xa5
    (pick (eqb v 0x60) 0xe1 0xff))))))))

-- .. and what it stands for
abbrev pub item_in : ℕ → ℕ
item_in x = x % 128 - 1

-- what is below this is an escape
abbrev pub limit_of : Bool → ℕ
limit_of template = pick template 0xff 0x80

-- what begins with the scalars cs, the first of which stands at p; nothing where there is none
unfoldable pub begins_of : Form → List ℕ → ℕ → Escape
begins_of form [] p = Skipped p
begins_of form (v ∷ cs) p = item_of form v cs (p + width v)
