-- What a caller in another language is told: the number of a refusal, 0 where there is none, and five words: value, count, start, end, reached.
use Rattle.listing.specs.Listing.{Listed, listed_up_to}
use Rattle.std.specs.Prelude.{Err, Ok, Option, Some, None, ℕ, List, [], ◌∷◌, eqb}
use Rattle.items.specs.declared.Form.{Form}
use Rattle.token.specs.Reads.{Counted, Read, Tested, number_in}
use Rattle.laws.specs.Bools.{pick}
use Rattle.numbers.specs.Kinds.{number_of}
use Rattle.answers.specs.declared.Told.{Told}
use Rattle.source_test.specs.Source.{after_test}
use Rattle.token.specs.declared.reason.Reason.TheVariants.{NoSuchForm}
use Rattle.token.specs.declared.read.Refusal.{Refusal}
use Rattle.unescape.specs.Bodies.{Result, refuse, unescape_of}
use Rattle.items.specs.declared.Form.TheVariants.{Byte, ByteText, Char, Template, Text}

-- what a call does not give is 0
abbrev pub told_as : ℕ → ℕ → ℕ → ℕ → ℕ → ℕ → Told
told_as number value count start end reached = record { number = number; words = value ∷ count ∷ start ∷ end ∷ reached ∷ [] }

abbrev pub of_refusal : ℕ → Refusal → Told
of_refusal count r = told_as (number_in r) 0 count r.span.start r.span.end r.reached

-- the tests 1 and 2 of a source, and the outline
abbrev pub of_tested : Tested → Told
of_tested t = after_test t (told_as 0 0 0 0 0 0) (of_refusal 0)

-- a token's value is its kind's number
abbrev pub of_read : Read → Told
of_read (Ok k) = told_as 0 (number_of k.kind) 0 k.span.start k.span.end k.span.end
of_read (Err r) = of_refusal 0 r

-- the count is of stored tokens
abbrev pub of_listed : Listed → Told
of_listed (Ok count) = told_as 0 0 count 0 0 0
of_listed (Err s) = of_refusal s.count s.refusal

-- .. of written bytes, or of written words
abbrev pub of_counted : Counted → Told
of_counted (Ok count) = told_as 0 0 count 0 0 0
of_counted (Err r) = of_refusal 0 r

-- the forms of a body by number, in document 01's order
unfoldable pub form_of : ℕ → Option Form
form_of n =
    pick (eqb n 1) (Some Text)
    (pick (eqb n 2) (Some Template)
    (pick (eqb n 3) (Some Char)
    (pick (eqb n 4) (Some ByteText)
    (pick (eqb n 5) (Some Byte) None))))

-- 5, before all else: the number names no form
unfoldable pub formed : Option Form → List ℕ → ℕ → Result
formed (Some form) s room = unescape_of form s room
formed None s room = refuse NoSuchForm 0 0
