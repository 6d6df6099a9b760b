-- Document 01, "Escapes": what the scalars after a backslash give, one rule each. The first of them stands at p; an answer has the place after the last one read.
use Rattle.token.specs.declared.reason.Reason.TheVariants.{BadByteEscape, BadEscapeSequence, BadHexEscapeChar, BadUnicodeEscape, BadUnicodeEscapeInByteString}
use Rattle.std.specs.Prelude.{ℕ, ◌+◌, ◌*◌, ◌%◌, List, [], ◌∷◌, Bool, true, false, leb, eqb}
use Rattle.classes.specs.Classes.{is_white_space}
use Rattle.classes.specs.Digits.{hex_value, is_hex_digit}
use Rattle.encoding.specs.Encode.{is_scalar}
use Rattle.escapes.specs.declared.Escape.{Escape}
use Rattle.escapes.specs.declared.Escape.TheVariants.{Bad, Item, Skipped}
use Rattle.laws.specs.Bools.{both, pick}
use Rattle.text.specs.Characters.{backslash, backtick, carriage_return, close_brace, dollar, double_quote, letter_n, letter_r, letter_t, letter_u, letter_x, line_feed, open_brace, quote}
use Rattle.text.specs.Utf8.{width}

-- after a backslash and a line end, LF or CR, White_Space is passed over: the place of the first scalar that is none
unfoldable pub skip_white : List ℕ → ℕ → ℕ
skip_white [] p = p
skip_white (v ∷ cs) p = elim (is_white_space v) [ true ↦ skip_white cs (p + width v) | false ↦ p ]

-- .. in text, a template and byte text; in a char and a byte it is no escape: 20
abbrev pub line_end : Bool → List ℕ → ℕ → Escape
line_end lines cs p = pick lines (Skipped (skip_white cs p)) (Bad BadEscapeSequence p)

-- shared: \' \" \n \r \t \\ \0; no other scalar is an escape: 20
unfoldable pub shared_of : ℕ → ℕ → Escape
shared_of v p =
    pick (eqb v quote) (Item quote p)
    (pick (eqb v double_quote) (Item double_quote p)
    (pick (eqb v letter_n) (Item line_feed p)
    (pick (eqb v letter_r) (Item carriage_return p)
    (pick (eqb v letter_t) (Item 0x09 p)
    (pick (eqb v backslash) (Item backslash p)
    (pick (eqb v 0x30) (Item 0x00 p) (Bad BadEscapeSequence p)))))))

-- \x with two hex digits; 24 at another scalar or the end
unfoldable pub hex_second : ℕ → List ℕ → ℕ → Escape
hex_second x [] p = Bad BadByteEscape p
hex_second x (v ∷ cs) p = pick (is_hex_digit v) (Item (x * 16 + hex_value v) (p + width v)) (Bad BadByteEscape (p + width v))

unfoldable pub hex_of : List ℕ → ℕ → Escape
hex_of [] p = Bad BadByteEscape p
hex_of (v ∷ cs) p = pick (is_hex_digit v) (hex_second (hex_value v) cs (p + width v)) (Bad BadByteEscape (p + width v))

-- text allows \x to 7f: 23 above
abbrev pub low_only : Escape → Escape
low_only (Item x p) = pick (leb x 0x7f) (Item x p) (Bad BadHexEscapeChar p)
low_only (Skipped p) = Skipped p
low_only (Bad n p) = Bad n p

-- the low 32 bits are kept
abbrev pub shift_in : ℕ → ℕ → ℕ
shift_in x v = x * 16 % 0x100000000 + hex_value v

-- after one digit or more a Unicode scalar is accepted: else 22
abbrev pub close_of : Bool → ℕ → ℕ → Escape
close_of some x p = pick (both some (is_scalar x)) (Item x p) (Bad BadUnicodeEscape p)

-- \u{..} after the brace, with the number x so far; 22 at what is neither a hex digit nor `}`, or at the end
unfoldable pub digits_of : Bool → ℕ → List ℕ → ℕ → Escape
digits_of some x [] p = Bad BadUnicodeEscape p
digits_of some x (v ∷ cs) p =
    elim (eqb v close_brace) [
      | true ↦ close_of some x (p + width v)
      | false ↦ elim (is_hex_digit v) [ true ↦ digits_of true (shift_in x v) cs (p + width v) | false ↦ Bad BadUnicodeEscape (p + width v) ]
    ]

unfoldable pub unicode_of : List ℕ → ℕ → Escape
unicode_of [] p = Bad BadUnicodeEscape p
unicode_of (v ∷ cs) p = pick (eqb v open_brace) (digits_of false 0 cs (p + width v)) (Bad BadUnicodeEscape (p + width v))

-- \` and \$ only in templates
abbrev pub only_in_template : Bool → ℕ → ℕ → Escape
only_in_template template v p = pick template (Item v p) (Bad BadEscapeSequence p)

-- the scalar v after the backslash, and the scalars cs after it: in bytes, where \u is 21 ..
unfoldable pub byte_turn : Bool → ℕ → List ℕ → ℕ → Escape
byte_turn lines v cs p =
    pick (eqb v line_feed) (line_end lines cs p)
    (pick (eqb v carriage_return) (line_end lines cs p)
    (pick (eqb v letter_x) (hex_of cs p)
    (pick (eqb v letter_u) (Bad BadUnicodeEscapeInByteString p) (shared_of v p))))

-- .. and in text
unfoldable pub char_turn : Bool → Bool → ℕ → List ℕ → ℕ → Escape
char_turn template lines v cs p =
    pick (eqb v line_feed) (line_end lines cs p)
    (pick (eqb v carriage_return) (line_end lines cs p)
    (pick (eqb v dollar) (only_in_template template v p)
    (pick (eqb v backtick) (only_in_template template v p)
    (pick (eqb v letter_x) (low_only (hex_of cs p))
    (pick (eqb v letter_u) (unicode_of cs p) (shared_of v p))))))

-- a backslash at the end is 20
unfoldable pub byte_escape : Bool → List ℕ → ℕ → Escape
byte_escape lines [] p = Bad BadEscapeSequence p
byte_escape lines (v ∷ cs) p = byte_turn lines v cs (p + width v)

unfoldable pub char_escape : Bool → Bool → List ℕ → ℕ → Escape
char_escape template lines [] p = Bad BadEscapeSequence p
char_escape template lines (v ∷ cs) p = char_turn template lines v cs (p + width v)
