-- No rules of document 01: what the code tests below 0x80, and its tables.
use Rattle.std.specs.Prelude.{ℕ, List, Bool, eqb}
use Rattle.std.specs.List.{list_any}
use Rattle.laws.specs.Bools.{either, within}

abbrev pub ascii_white : ℕ → Bool
ascii_white v = either (eqb v 0x20) (within 0x09 0x0d v)

abbrev pub ascii_start : ℕ → Bool
ascii_start v = either (within 0x61 0x7a v) (within 0x41 0x5a v)

abbrev pub ascii_continue : ℕ → Bool
ascii_continue v = either (within 0x61 0x7a v) (either (within 0x41 0x5a v) (either (eqb v 0x5f) (within 0x30 0x39 v)))

-- v lies in one of the ranges, which stand as pairs
unfoldable pub in_pairs : List (ℕ × ℕ) → ℕ → Bool
in_pairs t v = list_any (λ range. within range.0 range.1 v) t
