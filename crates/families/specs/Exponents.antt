-- Document 02, A2: what signed exponents can touch.
use Rattle.std.specs.Prelude.{ℕ, List, [], ◌∷◌, Bool, true, false, not}
use Rattle.laws.specs.Bools.{both}
use Rattle.readers.specs.Numbers.{is_e, is_sign}
use Rattle.readers.specs.Rules.{Rules}

-- the same rules with document 01's own rule for numbers
abbrev pub plain_numbers : Rules → Rules
plain_numbers R = record { stride = R.stride; skip = R.skip; start = R.start; continue = R.continue; exponents = false }

-- no `e` or `E` is followed by a sign
abbrev pub begins_sign : List ℕ → Bool
begins_sign [] = false
begins_sign (v ∷ cs) = is_sign v

unfoldable pub none_signed : List ℕ → Bool
none_signed [] = true
none_signed (v ∷ cs) = both (not (both (is_e v) (begins_sign cs))) (none_signed cs)
