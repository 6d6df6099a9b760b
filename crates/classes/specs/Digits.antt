-- Document 01's digits and hex digits, and what a hex digit stands for.
use Rattle.std.specs.Prelude.{ℕ, ◌+◌, ◌-◌, Bool, Option, Some, None}
use Rattle.laws.specs.Bools.{either, pick, within}

-- a digit, 0-9
abbrev pub is_digit : ℕ → Bool
is_digit v = within 0x30 0x39 v

-- a-f and A-F
abbrev pub is_low_hex : ℕ → Bool
is_low_hex v = within 0x61 0x66 v

abbrev pub is_high_hex : ℕ → Bool
is_high_hex v = within 0x41 0x46 v

-- a hex digit
abbrev pub is_hex_digit : ℕ → Bool
is_hex_digit v = either (is_digit v) (either (is_low_hex v) (is_high_hex v))

-- what a hex digit stands for; 0 for every other scalar
unfoldable pub hex_value : ℕ → ℕ
hex_value v =
    pick (is_digit v) (v - 0x30)
    (pick (is_low_hex v) (v - 0x61 + 10) (pick (is_high_hex v) (v - 0x41 + 10) 0))

-- .. and whether it is one
unfoldable pub digit_of : ℕ → Option ℕ
digit_of v = pick (is_hex_digit v) (Some (hex_value v)) None
