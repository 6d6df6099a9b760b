-- What a source has that its writer would want to know, from two token lists: the one in force, and the one in which the first `*/` ends a comment.
use Rattle.findings.specs.declared.code.Code.{Code}
use Rattle.findings.specs.declared.code.UnknownCode.{UnknownCode}
use Rattle.findings.specs.declared.code.Code.TheVariants.{ByteOrderMark, CommentUnclosed, ReadAsCode, RunsOn, RunsOnBlank, TemplateUnclosed}
use Rattle.findings.specs.declared.store.Finding.{Finding}
use Rattle.listing.specs.Listing.{Listed, listed_up_to}
use Rattle.std.specs.Prelude.{Err, None, Ok, Option, Result, Some, ℕ, ◌+◌, ◌-◌, List, [], ◌∷◌, ◌++◌, Bool, true, false, not, leb, ltb, eqb, length}
use Rattle.token.specs.declared.reason.Reason.TheVariants.{NoRoom}
use Rattle.families.specs.Tokens.{Tokens, fin, halt, more, tokens_at}
use Rattle.laws.specs.Bools.{both, either, pick, within}
use Rattle.marks.specs.Marks.{close_mark}
use Rattle.numbers.specs.Kinds.{number_of}
use Rattle.readers.specs.Rules.{rules_of}
use Rattle.readers.specs.declared.reading.Comments.TheVariants.{First}
use Rattle.readers.specs.declared.reading.Reading.{Reading}
use Rattle.source_test.specs.Source.{after_test, source_test}
use Rattle.text.specs.Utf8.{from, rest}
use Rattle.token.specs.Reads.{got_of, reached_of, span_of, Read, number_in}
use Rattle.token.specs.declared.kind.Kind.TheVariants.{Eof}
use Rattle.token.specs.declared.read.Refusal.{Refusal}
use Rattle.token.specs.declared.read.Token.{Token}

-- the same reading, but that the first `*/` ends a comment
abbrev pub under_first : Reading → Reading
under_first g = record { comments = First }

-- white space and comments are the kinds 1 to 4, comments those from 2 on
abbrev pub is_white_or_comment : Token → Bool
is_white_or_comment k = leb (number_of k.kind) 4

abbrev pub is_comment : Token → Bool
is_comment k = within 2 4 (number_of k.kind)

-- the codes by number
abbrev pub code_number : Code → ℕ
code_number RunsOn = 60
code_number RunsOnBlank = 61
code_number ReadAsCode = 62
code_number CommentUnclosed = 63
code_number TemplateUnclosed = 64
code_number ByteOrderMark = 65

-- .. and back: the code that a number stands for
unfoldable pub code_of : ℕ → Result Code UnknownCode
code_of n =
    pick (eqb n 60) (Ok RunsOn)
    (pick (eqb n 61) (Ok RunsOnBlank)
    (pick (eqb n 62) (Ok ReadAsCode)
    (pick (eqb n 63) (Ok CommentUnclosed)
    (pick (eqb n 64) (Ok TemplateUnclosed)
    (pick (eqb n 65) (Ok ByteOrderMark) (Err (record { 0 = n })))))))

-- a code, the span of a token, and the span of a stretch
abbrev pub finding_of : Code → ℕ → ℕ → ℕ → ℕ → Finding
finding_of code start end from to = record { code = code; start = start; end = end; from = from; to = to }

-- one without a stretch has a point there, at its end
abbrev pub plain_finding : Code → ℕ → ℕ → Finding
plain_finding code start end = finding_of code start end end end

-- what two readings answer at one place lists the same, word for word
abbrev pub alike : Read → Read → Bool
alike (Ok k) (Ok j) = both (eqb (number_of k.kind) (number_of j.kind)) (eqb k.span.end j.span.end)
alike (Ok k) (Err r) = false
alike (Err r) (Ok k) = false
alike (Err r) (Err q) =
    both (eqb (number_in r) (number_in q)) (both (eqb r.span.start q.span.start) (both (eqb r.span.end q.span.end) (eqb r.reached q.reached)))

-- a list from p on holds, before e, anything but white space and comments; what no rule reads is such a thing
unfoldable pub holds : ℕ → ℕ → Tokens → Bool
holds p e fin = false
holds p e (halt r) = ltb p e
holds p e (more k ts) = both (ltb p e) (either (not (is_white_or_comment k)) (holds k.span.end e ts))

unfoldable pub holds_at : Reading → List ℕ → ℕ → ℕ → Bool
holds_at g s p e = holds p e (tokens_at (rules_of g) s p)

-- runs-on: 60 where the stretch holds something, a rule that is gone or text that is in force; else 61
unfoldable pub runs_on_code : Reading → List ℕ → ℕ → ℕ → Code
runs_on_code g s p e = pick (holds_at g s p e) RunsOn RunsOnBlank

-- what is read at p ends at x, and under First at y; the stretch lies between, and is read as that one reads which ended first
unfoldable pub runs_on : Reading → List ℕ → ℕ → ℕ → ℕ → Finding
runs_on g s p x y =
    pick (leb y x)
    (finding_of (runs_on_code (under_first g) s y x) p x y x)
    (finding_of (runs_on_code g s x y) p x x y)

-- 62, read-as-code: a token in force, neither white space nor comment, that begins inside a comment under First; the stretch is that comment
unfoldable pub as_code : ℕ → Read → ℕ → Read → Option Finding
as_code p (Ok k) q (Ok j) = pick (both (is_comment j) (not (is_white_or_comment k))) (Some (finding_of ReadAsCode p k.span.end q j.span.end)) None
as_code p (Ok k) q (Err r) = None
as_code p (Err r) q b = None

-- a is read at p, and b under First at q, the last place there that is not past p
unfoldable pub across : Reading → List ℕ → ℕ → Read → ℕ → Read → Option Finding
across g s p a q b =
    pick (eqb q p) (pick (alike a b) None (Some (runs_on g s p (reached_of a) (reached_of b)))) (as_code p a q b)

-- 63: a comment that nothing closes. 64: such a template. Neither has a stretch
unfoldable pub alone : ℕ → Token → Option Finding
alone p k =
    pick (eqb (number_of k.kind) 4) (Some (plain_finding CommentUnclosed p k.span.end))
    (pick (both (eqb (number_of k.kind) 16) (eqb (length (close_mark k.kind)) 0)) (Some (plain_finding TemplateUnclosed p k.span.end)) None)

-- 65: a byte order mark at the start of the source
abbrev pub mark_of : List ℕ → Option Finding
mark_of [] = None
mark_of (v ∷ cs) = pick (eqb v 0xFEFF) (Some (plain_finding ByteOrderMark 0 3)) None

abbrev pub listed : Option Finding → List Finding
listed (Some f) = f ∷ []
listed None = []

-- a list, and the place from which on it goes
pub record From : Type 0 where
  pub place : ℕ
  pub list : Tokens

abbrev pub from_of : Reading → List ℕ → ℕ → From
from_of g s p = record { place = p; list = tokens_at (rules_of g) s p }

-- of a list from q on, the part from the token on that covers the place p; what is refused covers all that follows
unfoldable pub onward : ℕ → ℕ → Tokens → From
onward p q fin = record { place = q; list = fin }
onward p q (halt r) = record { place = q; list = halt r }
onward p q (more k ts) = elim (ltb p k.span.end) [ true ↦ record { place = q; list = more k ts } | false ↦ onward p k.span.end ts ]

-- what is read at the first place of a list
abbrev pub head_of : ℕ → Tokens → Read
head_of p fin = got_of Eof p p
head_of p (halt r) = Err r
head_of p (more k ts) = Ok k

-- both lists walked side by side: ts is in force from p on, fs the one under First from q on
unfoldable pub walk : Reading → List ℕ → ℕ → Tokens → ℕ → Tokens → List Finding
walk g s p fin q fs = []
walk g s p (halt r) q fs = let u = onward p q fs in listed (across g s p (Err r) u.place (head_of u.place u.list))
walk g s p (more k ts) q fs =
    let u = onward p q fs in
    listed (across g s p (Ok k) u.place (head_of u.place u.list)) ++ (listed (alone p k) ++ walk g s k.span.end ts u.place u.list)

unfoldable pub walk_at : Reading → List ℕ → ℕ → ℕ → List Finding
walk_at g s p q = walk g s p (tokens_at (rules_of g) s p) q (tokens_at (rules_of (under_first g)) s q)

-- all that is found, in the order of places
unfoldable pub found_of : Reading → List ℕ → List Finding
found_of g s = listed (mark_of (rest s 0)) ++ walk_at g s 0 0

-- how the list in force ends, where n findings were stored
unfoldable pub ends_as : Tokens → ℕ → Listed
ends_as fin n = Ok n
ends_as (halt r) n = listed_up_to n r
ends_as (more k ts) n = ends_as ts n

-- 3: the finding for which there was no place
abbrev pub no_room_for : Finding → Refusal
no_room_for f = record { reason = NoRoom; span = span_of f.start f.end; reached = f.end }

-- five words a finding
abbrev pub finding_words : Finding → List ℕ → List ℕ
finding_words f ws = code_number f.code ∷ (f.start ∷ (f.end ∷ (f.from ∷ (f.to ∷ ws))))

-- .. of as many as there is room for
unfoldable pub words_found : List Finding → ℕ → List ℕ
words_found [] room = []
words_found (f ∷ fs) room =
    elim (ltb room 5) [
      | true ↦ []
      | false ↦ finding_words f (words_found fs (room - 5))
    ]

-- the answer, where n findings were stored before and the list in force ends so
unfoldable pub answer_found : List Finding → (ℕ → Listed) → ℕ → ℕ → Listed
answer_found [] close room n = close n
answer_found (f ∷ fs) close room n = elim (ltb room 5) [ true ↦ listed_up_to n (no_room_for f) | false ↦ answer_found fs close (room - 5) (n + 1) ]

-- 1 and 2 come first, and store nothing
unfoldable pub findings_of : Reading → List ℕ → ℕ → Listed
findings_of g s room = after_test (source_test s) (answer_found (found_of g s) (ends_as (tokens_at (rules_of g) s 0)) room 0) (listed_up_to 0)

unfoldable pub stored_findings : Reading → List ℕ → ℕ → List ℕ
stored_findings g s room = after_test (source_test s) (words_found (found_of g s) room) (λ r. [])
