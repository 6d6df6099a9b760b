-- A token told by its bytes: an operator, a word or blanks, all ASCII. These are no rules of document 01; proofs/ has what they are in its terms.
use Rattle.std.specs.Prelude.{ℕ, ◌+◌, ◌/◌, ◌%◌, List, [], ◌∷◌, Bool, ltb, eqb, drop, get_or, length}
use Rattle.laws.specs.Bools.{both, either, pick, within}
use Rattle.quick.specs.Operators.{quick_at}
use Rattle.quick.specs.declared.tokens.Quick.{Quick}
use Rattle.readers.specs.Numbers.{in_number}
use Rattle.text.specs.Characters.{double_quote, letter_b, quote, underscore}

-- tab, line feed, carriage return and space
abbrev pub is_blank : ℕ → Bool
is_blank b = either (within 9 10 b) (either (eqb b 13) (eqb b 32))

-- an ASCII letter or `_`
abbrev pub begins_word : ℕ → Bool
begins_word b = either (within 65 90 b) (either (within 97 122 b) (eqb b 95))

-- the longest run of bytes that pass a test
unfoldable pub passing : (ℕ → Bool) → List ℕ → List ℕ
passing f [] = []
passing f (b ∷ s) = pick (f b) (b ∷ passing f s) []

-- nothing is told: the reader has to be asked
abbrev pub ask : Quick
ask = record { number = 0; end = 0 }

-- blanks up to e, where the byte c stands: white space may go on with 11, 12 and what is not ASCII
abbrev pub blank_by : ℕ → ℕ → Quick
blank_by c e = pick (either (ltb 127 c) (either (eqb c 11) (eqb c 12))) ask (record { number = 1; end = e })

-- .. from after the first one, at p; past the end of a source stands 0
unfoldable pub blank_at : List ℕ → ℕ → Quick
blank_at s p = let e = p + length (passing is_blank (drop p s)) in blank_by (get_or s e 0) e

-- a word that begins with a, up to e, where c stands: it may go on with what is not ASCII, and a quote after `b` is no word's; a lone `_` is a kind of its own
abbrev pub word_by : ℕ → ℕ → ℕ → ℕ → Quick
word_by a p c e = pick (either (ltb 127 c) (both (eqb a letter_b) (either (eqb c double_quote) (eqb c quote)))) ask (record { number = pick (both (eqb a underscore) (eqb e p)) 7 6; end = e })

unfoldable pub word_at : ℕ → List ℕ → ℕ → Quick
word_at a s p = let e = p + length (passing in_number (drop p s)) in word_by a p (get_or s e 0) e

-- where no operator is told: a token that begins with a, which ends at p
abbrev pub other_by : ℕ → List ℕ → ℕ → Quick
other_by a s p = pick (is_blank a) (blank_at s p) (pick (begins_word a) (word_at a s p) ask)

unfoldable pub other_at : List ℕ → ℕ → Quick
other_at s at = other_by (get_or s at 0) s (at + 1)

unfoldable pub quick_token_at : List ℕ → ℕ → Quick
quick_token_at s at = let q = quick_at s at in pick (eqb q 0) (other_at s at) (record { number = q / 4; end = at + q % 4 })
