-- Document 01's starred examples as one table that the definitions compute. Assumes nothing.
use Rattle.token.specs.Reads.{number_in}
use Prim.Native.Nat.{ℕ}
use mathlib.Core.Path.{◌≡◌, refl}
use mathlib.Core.List.{List, [], ◌∷◌, map}
use Rattle.choice.specs.Rule.{first_of, left_of, other_of, token_with}
use Rattle.classes.specs.Classes.{white_space, xid_continue, xid_start}
use Rattle.families.specs.Tokens.{Tokens, fin, halt, more, tokens_at, tokens_of}
use Rattle.laws.specs.Tables.{in_ranges}
use Rattle.lexer.specs.Next.{next_of}
use Rattle.numbers.specs.Kinds.{number_of}
use Rattle.operators.specs.Operators.{find_one, find_three, find_two, look_one, look_three, look_two, ones, operator_of, threes, twos}
use Rattle.readers.specs.Readers.{byte_of, byte_step, char_of, char_step, comment_end, comment_of, comment_step, run, white_of, word_of}
use Rattle.readers.specs.Rules.{rules_of, rune}
use Rattle.readers.specs.Scan.{scan}
use Rattle.readers.specs.declared.reading.Reading.{Reading}
use Rattle.templates.specs.Body.{template_body, template_of, template_turn, token_of}
use Rattle.text.specs.Utf8.{decode, first, from, lead_of, rest, width}

-- an answer in document 01's numbers: tokens up to the end or to a refusal, each with number, start and end
pub data Answer : Type 0 where
  all_read : Answer
  refuses : ℕ → ℕ → ℕ → Answer
  reads : ℕ → ℕ → ℕ → Answer → Answer

unfoldable pub shown_of : Tokens → Answer
shown_of fin = all_read
shown_of (halt r) = refuses (number_in r) r.span.start r.span.end
shown_of (more k ts) = reads (number_of k.kind) k.span.start k.span.end (shown_of ts)

abbrev pub answer_by : Reading → List ℕ → Answer
answer_by g s = shown_of (tokens_at (rules_of g) s 0)

-- a source's bytes and its answer
unfoldable pub examples : List (List ℕ × Answer)
examples =
    -- empty
    ([], all_read)
    -- /**/
    ∷ (47 ∷ 42 ∷ 42 ∷ 47 ∷ [], reads 4 0 4 all_read)
    -- /*a*/
    ∷ (47 ∷ 42 ∷ 97 ∷ 42 ∷ 47 ∷ [], reads 4 0 5 all_read)
    -- /*ab*/
    ∷ (47 ∷ 42 ∷ 97 ∷ 98 ∷ 42 ∷ 47 ∷ [], reads 3 0 6 all_read)
    -- /**/x/**/
    ∷ (47 ∷ 42 ∷ 42 ∷ 47 ∷ 120 ∷ 47 ∷ 42 ∷ 42 ∷ 47 ∷ [], reads 3 0 9 all_read)
    -- 'A
    ∷ (39 ∷ 65 ∷ [], reads 9 0 2 all_read)
    -- 'a
    ∷ (39 ∷ 97 ∷ [], reads 15 0 2 all_read)
    -- 'a and LF
    ∷ (39 ∷ 97 ∷ 10 ∷ [], refuses 11 0 2)
    -- ''
    ∷ (39 ∷ 39 ∷ [], refuses 12 0 2)
    -- ...
    ∷ (46 ∷ 46 ∷ 46 ∷ [], reads 52 0 2 (reads 28 2 3 all_read))
    -- `}`
    ∷ (96 ∷ 125 ∷ 96 ∷ [], reads 16 0 3 all_read)
    -- `\''`
    ∷ (96 ∷ 92 ∷ 39 ∷ 39 ∷ 96 ∷ [], reads 16 0 5 all_read)
    -- not starred: b'\'' and 'a b
    ∷ (98 ∷ 39 ∷ 92 ∷ 39 ∷ 39 ∷ [], reads 10 0 4 (refuses 13 4 5))
    ∷ (39 ∷ 97 ∷ 32 ∷ 98 ∷ [], reads 15 0 2 (reads 1 2 3 (reads 6 3 4 all_read)))
    ∷ []

pub starred : map (λ (e : List ℕ × Answer). answer_by rune e.0) examples ≡ map (λ (e : List ℕ × Answer). e.1) examples
unfolding examples shown_of number_of tokens_at tokens_of next_of token_of token_with first_of other_of left_of template_of template_body template_turn white_of run scan comment_of comment_end comment_step byte_of byte_step char_of char_step word_of operator_of find_one find_two find_three look_one look_two look_three ones twos threes in_ranges white_space xid_start xid_continue rest decode from first lead_of width
starred = refl
