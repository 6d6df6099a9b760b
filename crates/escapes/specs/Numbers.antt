-- No rules of document 01: numbers as the code reads them, with the place after them, or the place where a refusal was found.
use Rattle.std.specs.Prelude.{ℕ, ◌+◌, List, [], ◌∷◌, Result, Ok, Err}
use Rattle.classes.specs.Digits.{hex_value, is_hex_digit}
use Rattle.escapes.specs.declared.Escape.{Escape}
use Rattle.escapes.specs.declared.Escape.TheVariants.{Bad, Item}
use Rattle.laws.specs.Bools.{pick}
use Rattle.text.specs.Utf8.{scalar_of, width}
use Rattle.text.specs.declared.utf8.Scalar.{Scalar}
use Rattle.token.specs.declared.reason.Reason.{Reason}

abbrev pub item_or : Reason → Result Scalar ℕ → Escape
item_or reason (Ok x) = Item x.value x.next
item_or reason (Err p) = Bad reason p

-- a hex digit, which the first of the scalars from p on should be
unfoldable pub hex_digit_at : List ℕ → ℕ → Result Scalar ℕ
hex_digit_at [] p = Err p
hex_digit_at (v ∷ cs) p = pick (is_hex_digit v) (Ok (scalar_of (hex_value v) (p + width v))) (Err (p + width v))
