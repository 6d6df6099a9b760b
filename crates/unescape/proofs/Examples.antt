-- Document 01's examples of escapes: antt computes the definition. Assumes nothing.
use Rattle.token.specs.declared.reason.Reason.{Reason}
use Rattle.token.specs.declared.reason.Reason.TheVariants.{BadEscapeSequence, BadHexEscapeChar, BadUnicodeEscape}
use Prim.Native.Nat.{ℕ}
use mathlib.Core.Path.{◌≡◌, refl}
use mathlib.Core.List.{List, [], ◌∷◌}
use Rattle.classes.specs.Classes.{white_space}
use Rattle.classes.specs.Digits.{hex_value}
use Rattle.encoding.specs.Encode.{bytes_of, encode_of}
use Rattle.escapes.specs.Escapes.{byte_escape, byte_turn, char_escape, char_turn, digits_of, hex_of, hex_second, shared_of, skip_white, unicode_of}
use Rattle.items.specs.Items.{item_bytes, item_of}
use Rattle.items.specs.declared.Form.{Form}
use Rattle.items.specs.declared.Form.TheVariants.{Byte, Char, Text}
use Rattle.laws.specs.Tables.{in_ranges}
use Rattle.source_test.specs.Source.{sound_to, source_test}
use Rattle.text.specs.Utf8.{after, decode, first, from, lead_of, rest, width}
use Rattle.unescape.specs.Bodies.{body_of, item_turn, items_bytes, judge, refuse, unescape_of, unescaped_of, wrote}

-- the bytes that a body gives, with room for 16
abbrev Gives : Form → List ℕ → List ℕ → Type 0
Gives form s l = unescape_of form s 16 ≡ wrote l

abbrev Refuses : Form → List ℕ → Reason → ℕ → ℕ → Type 0
Refuses form s reason start end = unescape_of form s 16 ≡ refuse reason start end

-- \x7f accepted
hex_7f : Gives Text (0x5c ∷ 0x78 ∷ 0x37 ∷ 0x66 ∷ []) (0x7f ∷ [])
unfolding unescape_of source_test sound_to unescaped_of judge body_of item_turn item_of char_escape char_turn byte_escape byte_turn skip_white shared_of hex_of hex_second hex_value unicode_of digits_of items_bytes item_bytes encode_of bytes_of rest decode from first lead_of width after in_ranges white_space
hex_7f = refl

-- \x80 is 23
hex_80 : Refuses Text (0x5c ∷ 0x78 ∷ 0x38 ∷ 0x30 ∷ []) BadHexEscapeChar 0 4
unfolding unescape_of source_test sound_to unescaped_of judge body_of item_turn item_of char_escape char_turn byte_escape byte_turn skip_white shared_of hex_of hex_second hex_value unicode_of digits_of items_bytes item_bytes encode_of bytes_of rest decode from first lead_of width after in_ranges white_space
hex_80 = refl

-- byte \xff accepted
hex_ff : Gives Byte (0x5c ∷ 0x78 ∷ 0x66 ∷ 0x66 ∷ []) (0xff ∷ [])
unfolding unescape_of source_test sound_to unescaped_of judge body_of item_turn item_of char_escape char_turn byte_escape byte_turn skip_white shared_of hex_of hex_second hex_value unicode_of digits_of items_bytes item_bytes encode_of bytes_of rest decode from first lead_of width after in_ranges white_space
hex_ff = refl

-- \u{100000041} is A
overflow : Gives Text (0x5c ∷ 0x75 ∷ 0x7b ∷ 0x31 ∷ 0x30 ∷ 0x30 ∷ 0x30 ∷ 0x30 ∷ 0x30 ∷ 0x30 ∷ 0x34 ∷ 0x31 ∷ 0x7d ∷ []) (0x41 ∷ [])
unfolding unescape_of source_test sound_to unescaped_of judge body_of item_turn item_of char_escape char_turn byte_escape byte_turn skip_white shared_of hex_of hex_second hex_value unicode_of digits_of items_bytes item_bytes encode_of bytes_of rest decode from first lead_of width after in_ranges white_space
overflow = refl

-- \u{} is 22
no_digit : Refuses Text (0x5c ∷ 0x75 ∷ 0x7b ∷ 0x7d ∷ []) BadUnicodeEscape 0 4
unfolding unescape_of source_test sound_to unescaped_of judge body_of item_turn item_of char_escape char_turn byte_escape byte_turn skip_white shared_of hex_of hex_second hex_value unicode_of digits_of items_bytes item_bytes encode_of bytes_of rest decode from first lead_of width after in_ranges white_space
no_digit = refl

-- \u{d800} is 22
surrogate : Refuses Text (0x5c ∷ 0x75 ∷ 0x7b ∷ 0x64 ∷ 0x38 ∷ 0x30 ∷ 0x30 ∷ 0x7d ∷ []) BadUnicodeEscape 0 8
unfolding unescape_of source_test sound_to unescaped_of judge body_of item_turn item_of char_escape char_turn byte_escape byte_turn skip_white shared_of hex_of hex_second hex_value unicode_of digits_of items_bytes item_bytes encode_of bytes_of rest decode from first lead_of width after in_ranges white_space
surrogate = refl

-- a backslash, LF, a space and a: the white space is skipped
next_line : Gives Text (0x5c ∷ 0x0a ∷ 0x20 ∷ 0x61 ∷ []) (0x61 ∷ [])
unfolding unescape_of source_test sound_to unescaped_of judge body_of item_turn item_of char_escape char_turn byte_escape byte_turn skip_white shared_of hex_of hex_second hex_value unicode_of digits_of items_bytes item_bytes encode_of bytes_of rest decode from first lead_of width after in_ranges white_space
next_line = refl

-- .. and in a char it is 20
line_in_char : Refuses Char (0x5c ∷ 0x0a ∷ 0x20 ∷ 0x61 ∷ []) BadEscapeSequence 0 2
unfolding unescape_of source_test sound_to unescaped_of judge body_of item_turn item_of char_escape char_turn byte_escape byte_turn skip_white shared_of hex_of hex_second hex_value unicode_of digits_of items_bytes item_bytes encode_of bytes_of rest decode from first lead_of width after in_ranges white_space
line_in_char = refl
