-- A token of a source: the shebang at position 0, the source's end in refusal 12's span, and the tests 1, 2 and 4 before reading.
use Rattle.std.specs.Prelude.{Err, Ok, ℕ, List, [], ◌∷◌, Bool, false, eqb, length}
use Rattle.token.specs.declared.reason.Reason.TheVariants.{ExpectedCharClose}
use Rattle.choice.specs.Rule.{behind_one, next_is}
use Rattle.laws.specs.Bools.{both, pick}
use Rattle.readers.specs.Readers.{line_of}
use Rattle.readers.specs.Rules.{Rules, rules_of}
use Rattle.readers.specs.declared.reading.Reading.{Reading}
use Rattle.source_test.specs.Source.{after_test, position_test}
use Rattle.templates.specs.Body.{token_of}
use Rattle.text.specs.Characters.{bang, hash}
use Rattle.text.specs.Utf8.{rest}
use Rattle.token.specs.Reads.{refused_of, Read, number_in}
use Rattle.token.specs.declared.kind.Kind.TheVariants.{Shebang}

abbrev pub is_shebang : List ℕ → Bool
is_shebang [] = false
is_shebang (v ∷ cs) = both (eqb v hash) (next_is bang cs)

-- `#!` and the rest of its line
abbrev pub shebang_of : Rules → List ℕ → ℕ → Read
shebang_of R cs p = behind_one R (λ ds q. behind_one R (line_of R.stride Shebang p) ds q) cs p

-- 12's span ends where the source does, at n
abbrev pub close_span : ℕ → Read → Read
close_span n (Ok k) = Ok k
close_span n (Err r) = pick (eqb (number_in r) 12) (refused_of ExpectedCharClose r.span.start n r.reached) (Err r)

-- the token at p of a source that ends at n, where no shebang stands; cs are the scalars from p on
abbrev pub past_start_of : Rules → ℕ → List ℕ → ℕ → Read
past_start_of R n cs p = close_span n (token_of R 64 cs p)

-- .. anywhere: a shebang stands at position 0 only
unfoldable pub next_of : Rules → ℕ → List ℕ → ℕ → Read
next_of R n cs p = pick (both (eqb p 0) (is_shebang cs)) (shebang_of R cs p) (past_start_of R n cs p)

unfoldable pub next_at : Reading → List ℕ → ℕ → Read
next_at g s at = next_of (rules_of g) (length s) (rest s at) at

unfoldable pub past_start_at : Reading → List ℕ → ℕ → Read
past_start_at g s at = past_start_of (rules_of g) (length s) (rest s at) at

-- 1, 2 and 4 in this order, then reading
unfoldable pub read_at : Reading → List ℕ → ℕ → Read
read_at g s at = after_test (position_test s at) (next_at g s at) Err
