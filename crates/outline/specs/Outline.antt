-- Document 01, the outline: x over every byte inside a token, the source elsewhere.
use Rattle.std.specs.Prelude.{Err, Ok, ℕ, suc, ◌+◌, List, [], ◌∷◌, Bool, true, false, leb, ltb, length}
use Rattle.token.specs.declared.reason.Reason.TheVariants.{NoRoom}
use Rattle.families.specs.Tokens.{Tokens, fin, halt, more, tokens_at}
use Rattle.laws.specs.Bools.{both, pick}
use Rattle.marks.specs.Marks.{close_mark, open_mark}
use Rattle.numbers.specs.Kinds.{has_inside}
use Rattle.readers.specs.Rules.{Rules, rules_of}
use Rattle.readers.specs.declared.reading.Reading.{Reading}
use Rattle.source_test.specs.Source.{after_test, source_test}
use Rattle.token.specs.Reads.{point_refusal, Tested}
use Rattle.token.specs.declared.read.Token.{Token}

-- a byte at i of a piece up to e, with an inside from lo on that ends `kept` bytes before e
abbrev pub between : Bool → ℕ → ℕ → ℕ → ℕ → Bool
between inside lo kept e i = both inside (both (leb lo i) (ltb (i + kept) e))

-- the byte at i lies inside the token k
unfoldable pub inside_token : Token → ℕ → Bool
inside_token k i = between (has_inside k.kind) (k.span.start + length (open_mark k.kind)) (length (close_mark k.kind)) k.span.end i

-- .. inside one of the tokens: the first that ends past it decides, and nothing of a refused one is inside
unfoldable pub inside_at : Tokens → ℕ → Bool
inside_at fin i = false
inside_at (halt r) i = false
inside_at (more k ts) i = elim (ltb i k.span.end) [ true ↦ inside_token k i | false ↦ inside_at ts i ]

-- x over the bytes at the places that m picks; the first of the bytes stands at p
unfoldable pub paint : (ℕ → Bool) → List ℕ → ℕ → List ℕ
paint m [] p = []
paint m (b ∷ s) p = pick (m p) 0x78 b ∷ paint m s (suc p)

unfoldable pub outlined : Rules → List ℕ → List ℕ
outlined R s = paint (inside_at (tokens_at R s 0)) s 0

-- the refusal that ended the tokens is answered too
unfoldable pub outline_answer : Tokens → Tested
outline_answer fin = Ok tt
outline_answer (halt r) = Err r
outline_answer (more k ts) = outline_answer ts

-- 1, 2, then 3 for a buffer shorter than the source
unfoldable pub outline_of : Reading → List ℕ → ℕ → Tested
outline_of g s room = after_test (source_test s) (pick (ltb room (length s)) (Err (point_refusal NoRoom 0)) (outline_answer (tokens_at (rules_of g) s 0))) Err

-- what is written to the front of the buffer: nothing by these three
unfoldable pub outline_written : Reading → List ℕ → ℕ → List ℕ
outline_written g s room = after_test (source_test s) (pick (ltb room (length s)) [] (outlined (rules_of g) s)) (λ r. [])
