-- Document 01, "Escapes": the forms of a body, what a scalar of it begins, and the bytes of an item.
use Rattle.token.specs.declared.reason.Reason.TheVariants.{NotAscii}
use Rattle.std.specs.Prelude.{ℕ, List, [], ◌∷◌, Bool, true, false, not, ltb, eqb}
use Rattle.encoding.specs.Encode.{encode_of}
use Rattle.escapes.specs.Escapes.{byte_escape, char_escape}
use Rattle.escapes.specs.declared.Escape.{Escape}
use Rattle.escapes.specs.declared.Escape.TheVariants.{Bad, Item}
use Rattle.items.specs.declared.Form.{Form}
use Rattle.items.specs.declared.Form.TheVariants.{Byte, ByteText, Char, Template, Text}
use Rattle.laws.specs.Bools.{both, pick}
use Rattle.text.specs.Characters.{backslash}

abbrev pub is_bytes : Form → Bool
is_bytes Text = false
is_bytes Template = false
is_bytes Char = false
is_bytes ByteText = true
is_bytes Byte = true

abbrev pub is_template : Form → Bool
is_template Text = false
is_template Template = true
is_template Char = false
is_template ByteText = false
is_template Byte = false

-- a char or a byte is one item, and does not go on in the next line
abbrev pub is_single : Form → Bool
is_single Text = false
is_single Template = false
is_single Char = true
is_single ByteText = false
is_single Byte = true

-- a scalar that is no backslash stands for itself; 25 above U+007F in bytes
abbrev pub plain_of : Form → ℕ → ℕ → Escape
plain_of form v p = pick (both (is_bytes form) (ltb 0x7f v)) (Bad NotAscii p) (Item v p)

abbrev pub escape_of : Form → List ℕ → ℕ → Escape
escape_of form cs p = pick (is_bytes form) (byte_escape (not (is_single form)) cs p) (char_escape (is_template form) (not (is_single form)) cs p)

-- what the scalar v begins; the scalars cs after it stand at p
unfoldable pub item_of : Form → ℕ → List ℕ → ℕ → Escape
item_of form v cs p = pick (eqb v backslash) (escape_of form cs p) (plain_of form v p)

-- scalars as UTF-8, bytes as they are
unfoldable pub item_bytes : Form → ℕ → List ℕ
item_bytes form x = pick (is_bytes form) (x ∷ []) (encode_of x)
