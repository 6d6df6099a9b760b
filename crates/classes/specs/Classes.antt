-- Document 01's classes of scalars: White_Space and the word letters are tables of ranges, first and last by turns.
use Rattle.std.specs.Prelude.{ℕ, List, [], ◌∷◌, Bool}
use Rattle.laws.specs.Bools.{either, within}
use Rattle.laws.specs.Tables.{in_ranges}

-- White_Space
unfoldable pub white_space : List ℕ
white_space =
    0x0009 ∷ 0x000d ∷
    0x0020 ∷ 0x0020 ∷
    0x0085 ∷ 0x0085 ∷
    0x00a0 ∷ 0x00a0 ∷
    0x1680 ∷ 0x1680 ∷
    0x2000 ∷ 0x200a ∷
    0x2028 ∷ 0x2028 ∷
    0x2029 ∷ 0x2029 ∷
    0x202f ∷ 0x202f ∷
    0x205f ∷ 0x205f ∷
    0x3000 ∷ 0x3000 ∷
    []

abbrev pub is_white_space : ℕ → Bool
is_white_space v = in_ranges white_space v

-- a control (the rules of `'` and `b'`)
abbrev pub is_control : ℕ → Bool
is_control v = either (within 0x0000 0x001f v) (within 0x007f 0x009f v)

-- XID_Start up to U+024F; no scalar above is a word letter
unfoldable pub xid_start : List ℕ
xid_start =
    0x0041 ∷ 0x005a ∷
    0x0061 ∷ 0x007a ∷
    0x00aa ∷ 0x00aa ∷
    0x00b5 ∷ 0x00b5 ∷
    0x00ba ∷ 0x00ba ∷
    0x00c0 ∷ 0x00d6 ∷
    0x00d8 ∷ 0x00f6 ∷
    0x00f8 ∷ 0x024f ∷
    []

abbrev pub is_xid_start : ℕ → Bool
is_xid_start v = in_ranges xid_start v

-- XID_Continue adds 0-9, `_` and U+00B7
unfoldable pub xid_continue : List ℕ
xid_continue =
    0x0030 ∷ 0x0039 ∷
    0x0041 ∷ 0x005a ∷
    0x005f ∷ 0x005f ∷
    0x0061 ∷ 0x007a ∷
    0x00aa ∷ 0x00aa ∷
    0x00b5 ∷ 0x00b5 ∷
    0x00b7 ∷ 0x00b7 ∷
    0x00ba ∷ 0x00ba ∷
    0x00c0 ∷ 0x00d6 ∷
    0x00d8 ∷ 0x00f6 ∷
    0x00f8 ∷ 0x024f ∷
    []

abbrev pub is_xid_continue : ℕ → Bool
is_xid_continue v = in_ranges xid_continue v
