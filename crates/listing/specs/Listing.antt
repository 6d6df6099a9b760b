-- Document 01, listing: three words a token, up to the end, the first refusal, or a token for which the store has no place.
use Rattle.token.specs.declared.reason.Reason.TheVariants.{NoRoom}
use Rattle.std.specs.Prelude.{Result, Err, ℕ, ◌+◌, ◌-◌, List, [], true, false, ltb, Ok}
use Rattle.families.specs.Tokens.{Tokens, fin, halt, more, tokens_at}
use Rattle.listing.specs.declared.Stopped.{Stopped}
use Rattle.numbers.specs.Kinds.{number_of}
use Rattle.readers.specs.Rules.{rules_of}
use Rattle.readers.specs.declared.reading.Reading.{Reading}
use Rattle.rows.specs.Rows.{row_size, row_words}
use Rattle.source_test.specs.Source.{after_test, source_test}
use Rattle.token.specs.declared.read.Refusal.{Refusal}
use Rattle.token.specs.declared.read.Span.{Span}
use Rattle.token.specs.declared.read.Token.{Token}

-- the words of the tokens for which there is room
unfoldable pub listed_words : Tokens → ℕ → List ℕ
listed_words fin room = []
listed_words (halt r) room = []
listed_words (more k ts) room =
    elim (ltb room row_size) [
      | true ↦ []
      | false ↦ row_words (number_of k.kind) k.span.start k.span.end (listed_words ts (room - row_size))
    ]

-- 3: the token just read, for which there was no place
abbrev pub no_room_at : Span → Refusal
no_room_at span = record { reason = NoRoom; span = span; reached = span.end }

abbrev pub no_room : Token → Refusal
no_room k = no_room_at k.span

-- the count of the stored tokens, or what ended the listing
abbrev pub Listed : Type 0
Listed = Result ℕ Stopped

-- n tokens were stored before the refusal
abbrev pub stopped_at : ℕ → Refusal → Stopped
stopped_at n r = record { count = n; refusal = r }

abbrev pub listed_up_to : ℕ → Refusal → Listed
listed_up_to n r = Err (stopped_at n r)

-- the answer, where n tokens were stored before
unfoldable pub list_answer : Tokens → ℕ → ℕ → Listed
list_answer fin room n = Ok n
list_answer (halt r) room n = listed_up_to n r
list_answer (more k ts) room n = elim (ltb room row_size) [ true ↦ listed_up_to n (no_room k) | false ↦ list_answer ts (room - row_size) (n + 1) ]

-- 1 and 2 come first, and store nothing
unfoldable pub list_of : Reading → List ℕ → ℕ → Listed
list_of g s room = after_test (source_test s) (list_answer (tokens_at (rules_of g) s 0) room 0) (listed_up_to 0)

unfoldable pub stored_of : Reading → List ℕ → ℕ → List ℕ
stored_of g s room = after_test (source_test s) (listed_words (tokens_at (rules_of g) s 0) room) (λ r. [])
