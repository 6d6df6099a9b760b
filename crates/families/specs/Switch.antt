-- Document 02, A3: when a source's list in the mode in which the first close ends a comment is rune's list too, told from that list alone.
use Rattle.token.specs.Reads.{number_in}
use Rattle.std.specs.Prelude.{ℕ, ◌+◌, List, [], ◌∷◌, Bool, true, not, leb, ltb, eqb, length}
use Rattle.families.specs.Tokens.{Tokens, fin, halt, more}
use Rattle.laws.specs.Bools.{both, pick}
use Rattle.numbers.specs.Kinds.{number_of}
use Rattle.text.specs.Characters.{backslash}
use Rattle.text.specs.Utf8.{rest, width}
use Rattle.token.specs.declared.read.Token.{Token}

-- of the scalars cs, the first of which stands at p, those that stand before the place e
unfoldable pub up_to : List ℕ → ℕ → ℕ → List ℕ
up_to [] p e = []
up_to (v ∷ cs) p e = pick (ltb p e) (v ∷ up_to cs (p + width v) e) []

-- the scalars of a token
unfoldable pub text_of : List ℕ → Token → List ℕ
text_of s k = up_to (rest s k.span.start) k.span.start k.span.end

-- no backslash is among them
unfoldable pub unslashed : List ℕ → Bool
unslashed [] = true
unslashed (v ∷ cs) = both (not (eqb v backslash)) (unslashed cs)

-- by kind number and scalars: a closed comment has two scalars or more before its `*/`, and a template holds no backslash
unfoldable pub steady : ℕ → List ℕ → Bool
steady n cs = pick (eqb n 3) (leb 6 (length cs)) (pick (eqb n 16) (unslashed cs) true)

unfoldable pub switchable : List ℕ → Token → Bool
switchable s k = steady (number_of k.kind) (text_of s k)

-- every token of the list is so, and 19 does not end it: a backslash in a template led there
unfoldable pub switch_safe : List ℕ → Tokens → Bool
switch_safe s fin = true
switch_safe s (halt r) = not (eqb (number_in r) 19)
switch_safe s (more k ts) = both (switchable s k) (switch_safe s ts)
