-- Document 01, "How one token is read", numbers: its own rule, and the rule of document 02, A2. A number's first digit was read already.
use Rattle.std.specs.Prelude.{ℕ, List, [], ◌∷◌, Bool, true, false, eqb}
use Rattle.classes.specs.Digits.{is_digit}
use Rattle.laws.specs.Bools.{both, either, pick, within}
use Rattle.readers.specs.Scan.{Act, Stride, before, on, scan}
use Rattle.readers.specs.declared.number.Part.{Part}
use Rattle.readers.specs.declared.number.Part.TheVariants.{Based, Digits, Exponent, Mixed, Zero}
use Rattle.text.specs.Characters.{capital_e, digit_zero, dot, letter_b, letter_e, letter_o, letter_x, minus, plus, underscore}
use Rattle.token.specs.Reads.{got_of, Read}
use Rattle.token.specs.declared.kind.Kind.TheVariants.{Number}

-- ASCII letters, digits and `_`
abbrev pub in_number : ℕ → Bool
in_number v = either (is_digit v) (either (within 65 90 v) (either (within 97 122 v) (eqb v underscore)))

-- document 01: the longest run of these; one `.` directly followed by a digit is taken with its run, at most once (`whole`: none was taken yet)
abbrev pub begins_digit : List ℕ → Bool
begins_digit [] = false
begins_digit (v ∷ cs) = is_digit v

unfoldable pub plain_step : Bool → ℕ → List ℕ → Act Bool
plain_step whole v cs = pick (in_number v) (on whole) (pick (both whole (both (eqb v dot) (begins_digit cs))) (on false) (before whole))

-- A2: in a number that does not begin with `0x`, `0b` or `0o`
abbrev pub is_base : ℕ → Bool
is_base v = either (eqb v letter_x) (either (eqb v letter_b) (eqb v letter_o))

-- a run made of digits and `_`
abbrev pub in_digits : ℕ → Bool
in_digits v = either (is_digit v) (eqb v underscore)

-- and then one final `e` or `E`
abbrev pub is_e : ℕ → Bool
is_e v = either (eqb v letter_e) (eqb v capital_e)

abbrev pub first_part : ℕ → Part
first_part v = pick (eqb v digit_zero) Zero Digits

abbrev pub past_digits : ℕ → Part
past_digits v = pick (in_digits v) Digits (pick (is_e v) Exponent Mixed)

abbrev pub part_on : Part → ℕ → Part
part_on Zero v = pick (is_base v) Based (past_digits v)
part_on Digits v = past_digits v
part_on Exponent v = Mixed
part_on Mixed v = Mixed
part_on Based v = Based

abbrev pub part_past_dot : Part → Part
part_past_dot Zero = Digits
part_past_dot Digits = Digits
part_past_dot Exponent = Digits
part_past_dot Mixed = Digits
part_past_dot Based = Based

-- may be followed by `+` or `-`
abbrev pub is_sign : ℕ → Bool
is_sign v = either (eqb v plus) (eqb v minus)

abbrev pub takes_sign : Part → Bool
takes_sign Zero = false
takes_sign Digits = false
takes_sign Exponent = true
takes_sign Mixed = false
takes_sign Based = false

-- if a digit comes right after, as after a `.`: no other scalar is looked past
abbrev pub asks_digit : ℕ → Bool
asks_digit v = either (eqb v dot) (is_sign v)

-- a number up to the sign (whether no `.` was taken yet, and the part so far), and after it
pub data Numeral : Type 0 where
  unsigned : Bool → Part → Numeral
  signed : Numeral

abbrev pub joins : Bool → Part → ℕ → Bool
joins whole part v = both (asks_digit v) (pick (eqb v dot) whole (takes_sign part))

abbrev pub joined : Part → ℕ → Numeral
joined part v = pick (eqb v dot) (unsigned false (part_past_dot part)) signed

-- the sign and the digits and `_` after it join the token, which then ends
unfoldable pub number_step : Numeral → ℕ → List ℕ → Act Numeral
number_step (unsigned whole part) v cs =
    pick (in_number v) (on (unsigned whole (part_on part v)))
    (pick (both (joins whole part v) (begins_digit cs)) (on (joined part v)) (before (unsigned whole part)))
number_step signed v cs = pick (in_digits v) (on signed) (before signed)

-- with signed exponents or without; v is the first digit
unfoldable pub number_end : Stride → Bool → ℕ → List ℕ → ℕ → ℕ
number_end w false v cs p = (scan plain_step w true p cs p).place
number_end w true v cs p = (scan number_step w (unsigned true (first_part v)) p cs p).place

unfoldable pub number_lit_of : Stride → Bool → ℕ → ℕ → List ℕ → ℕ → Read
number_lit_of w e v a cs p = got_of Number a (number_end w e v cs p)
