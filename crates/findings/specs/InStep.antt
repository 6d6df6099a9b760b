-- How far the list in force and the one under First are the same, word for word.
use Rattle.std.specs.Prelude.{Err, Ok, ℕ, List, [], ◌∷◌, Bool, true, not, ltb, eqb}
use Rattle.token.specs.Reads.{Read}
use Rattle.token.specs.Reads.{number_in}
use Rattle.families.specs.Tokens.{Tokens, fin, halt, more}
use Rattle.findings.specs.Findings.{code_number}
use Rattle.findings.specs.declared.store.Finding.{Finding}
use Rattle.laws.specs.Bools.{both, either, pick, within}
use Rattle.numbers.specs.Kinds.{number_of}
use Rattle.rows.specs.Rows.{row_words}

-- a finding at which the two readings part
abbrev pub parts : Finding → Bool
parts f = within 60 61 (code_number f.code)

-- the place of the first of these, or e where there is none
unfoldable pub part_at : List Finding → ℕ → ℕ
part_at [] e = e
part_at (f ∷ fs) e = pick (parts f) f.start (part_at fs e)

unfoldable pub partless : List Finding → Bool
partless [] = true
partless (f ∷ fs) = both (not (parts f)) (partless fs)

-- the words of the tokens that begin before the place e
unfoldable pub words_before : ℕ → Tokens → List ℕ
words_before e fin = []
words_before e (halt r) = []
words_before e (more k ts) = pick (ltb k.span.start e) (row_words (number_of k.kind) k.span.start k.span.end (words_before e ts)) []

-- what may be read otherwise under First: a comment of kind 3 or 4, a template, and 19, to which only templates lead
abbrev pub parts_of : Read → Bool
parts_of (Ok k) = either (within 3 4 (number_of k.kind)) (eqb (number_of k.kind) 16)
parts_of (Err r) = eqb (number_in r) 19
