-- Document 01, "How one token is read": which rule reads a token, in the order of its tests.
use Rattle.token.specs.declared.reason.Reason.TheVariants.{UnexpectedChar}
use Rattle.std.specs.Prelude.{ℕ, ◌+◌, List, [], ◌∷◌, Bool, true, false, eqb, Option, None, Some}
use Rattle.classes.specs.Classes.{is_white_space}
use Rattle.classes.specs.Digits.{is_digit}
use Rattle.laws.specs.Bools.{both, pick}
use Rattle.operators.specs.Operators.{operator_of}
use Rattle.operators.specs.declared.Operator.{Operator}
use Rattle.readers.specs.Numbers.{number_lit_of}
use Rattle.readers.specs.Readers.{byte_of, char_of, comment_of, line_of, starts_word, str_of, white_of, word_of}
use Rattle.readers.specs.Rules.{Rules}
use Rattle.text.specs.Characters.{backtick, double_quote, letter_b, quote, slash, star}
use Rattle.token.specs.Reads.{got_of, refused_of, Read}
use Rattle.token.specs.declared.kind.Kind.TheVariants.{Comment, Eof}

abbrev pub next_is : ℕ → List ℕ → Bool
next_is c [] = false
next_is c (v ∷ cs) = eqb v c

-- a reader, from after the first of the scalars on
abbrev pub behind_one : Rules → (List ℕ → ℕ → Read) → List ℕ → ℕ → Read
behind_one R f [] p = f [] p
behind_one R f (v ∷ cs) p = f cs (p + R.stride v)

abbrev pub found_or : Option Operator → ℕ → Read → Read
found_or (Some o) a r = got_of o.kind a o.end
found_or None a r = r

-- how a template is read: where it starts, the scalars after its backtick, and their place
abbrev pub Deep : Type 0
Deep = ℕ → List ℕ → ℕ → Read

-- the scalar v stands at a, and after it the scalars cs, from p on. Words, numbers, char or label, template, and 18 where no rule fits
unfoldable pub left_of : Rules → Deep → ℕ → ℕ → List ℕ → ℕ → Read
left_of R t v a cs p =
    pick (starts_word R v) (word_of R.stride R.continue v a cs p)
    (pick (is_digit v) (number_lit_of R.stride R.exponents v a cs p)
    (pick (eqb v quote) (char_of R.stride a cs p)
    (pick (eqb v backtick) (t a cs p)
    (refused_of UnexpectedChar a p p))))

-- operators come before these
unfoldable pub other_of : Rules → Deep → ℕ → ℕ → List ℕ → ℕ → Read
other_of R t v a cs p = found_or (operator_of R.stride v cs p) a (left_of R t v a cs p)

-- white space, `//`, `/*`, `b'`, `b"`, `"`, and then the others
unfoldable pub first_of : Rules → Deep → ℕ → ℕ → List ℕ → ℕ → Read
first_of R t v a cs p =
    pick (is_white_space v) (white_of R.stride a cs p)
    (pick (both (eqb v slash) (next_is slash cs)) (behind_one R (line_of R.stride Comment a) cs p)
    (pick (both (eqb v slash) (next_is star cs)) (behind_one R (comment_of R.stride R.skip a) cs p)
    (pick (both (eqb v letter_b) (next_is quote cs)) (behind_one R (byte_of R.stride a) cs p)
    (pick (both (eqb v letter_b) (next_is double_quote cs)) (behind_one R (str_of R.stride true a) cs p)
    (pick (eqb v double_quote) (str_of R.stride false a cs p)
    (other_of R t v a cs p))))))

-- where no template is read, a backtick fits no rule
abbrev pub no_template : Deep
no_template a cs p = refused_of UnexpectedChar a p p

-- at the end 67, a point
unfoldable pub token_with : Rules → Deep → List ℕ → ℕ → Read
token_with R t [] p = got_of Eof p p
token_with R t (v ∷ cs) p = first_of R t v p cs (p + R.stride v)
