-- Where comments end in the two readings, as one table that the definitions compute. Assumes nothing.
use Prim.Native.Nat.{ℕ}
use mathlib.Core.Path.{◌≡◌, refl}
use mathlib.Core.List.{List, [], ◌∷◌, map}
use Rattle.choice.specs.Rule.{first_of, left_of, other_of, token_with}
use Rattle.classes.specs.Classes.{white_space, xid_continue, xid_start}
use Rattle.families.proofs.Starred.{Answer, all_read, answer_by, reads, shown_of}
use Rattle.families.specs.Tokens.{tokens_at, tokens_of}
use Rattle.laws.specs.Tables.{in_ranges}
use Rattle.lexer.specs.Next.{next_of}
use Rattle.numbers.specs.Kinds.{number_of}
use Rattle.operators.specs.Operators.{find_one, find_three, find_two, look_one, look_three, look_two, ones, operator_of, threes, twos}
use Rattle.readers.specs.Readers.{comment_end, comment_of, comment_step, run, white_of, word_of}
use Rattle.readers.specs.Rules.{first_close, rune}
use Rattle.readers.specs.Scan.{scan}
use Rattle.templates.specs.Body.{template_body, template_of, template_turn, token_of}
use Rattle.text.specs.Utf8.{decode, first, from, lead_of, rest, width}

-- a source's bytes, its answer as rune reads it, and its answer where the first `*/` closes
unfoldable pub closings : List (List ℕ × Answer × Answer)
closings =
    -- /**/
    (47 ∷ 42 ∷ 42 ∷ 47 ∷ [], reads 4 0 4 all_read, reads 3 0 4 all_read)
    -- /*/
    ∷ (47 ∷ 42 ∷ 47 ∷ [], reads 4 0 3 all_read, reads 4 0 3 all_read)
    -- /* */
    ∷ (47 ∷ 42 ∷ 32 ∷ 42 ∷ 47 ∷ [], reads 4 0 5 all_read, reads 3 0 5 all_read)
    -- /***/
    ∷ (47 ∷ 42 ∷ 42 ∷ 42 ∷ 47 ∷ [], reads 4 0 5 all_read, reads 3 0 5 all_read)
    -- /*/*/
    ∷ (47 ∷ 42 ∷ 47 ∷ 42 ∷ 47 ∷ [], reads 4 0 5 all_read, reads 3 0 5 all_read)
    -- /*a*/
    ∷ (47 ∷ 42 ∷ 97 ∷ 42 ∷ 47 ∷ [], reads 4 0 5 all_read, reads 3 0 5 all_read)
    -- /*ab*/
    ∷ (47 ∷ 42 ∷ 97 ∷ 98 ∷ 42 ∷ 47 ∷ [], reads 3 0 6 all_read, reads 3 0 6 all_read)
    -- /**/x/**/
    ∷ (47 ∷ 42 ∷ 42 ∷ 47 ∷ 120 ∷ 47 ∷ 42 ∷ 42 ∷ 47 ∷ [], reads 3 0 9 all_read, reads 3 0 4 (reads 6 4 5 (reads 3 5 9 all_read)))
    -- /*ab*/x/**/
    ∷ (47 ∷ 42 ∷ 97 ∷ 98 ∷ 42 ∷ 47 ∷ 120 ∷ 47 ∷ 42 ∷ 42 ∷ 47 ∷ [], reads 3 0 6 (reads 6 6 7 (reads 4 7 11 all_read)), reads 3 0 6 (reads 6 6 7 (reads 3 7 11 all_read)))
    -- /*
    ∷ (47 ∷ 42 ∷ [], reads 4 0 2 all_read, reads 4 0 2 all_read)
    -- /*a*
    ∷ (47 ∷ 42 ∷ 97 ∷ 42 ∷ [], reads 4 0 4 all_read, reads 4 0 4 all_read)
    -- `\/**/`x: the token after the backslash follows the reading
    ∷ (96 ∷ 92 ∷ 47 ∷ 42 ∷ 42 ∷ 47 ∷ 96 ∷ 120 ∷ [], reads 16 0 8 all_read, reads 16 0 7 (reads 6 7 8 all_read))
    -- `\/*ab*/`x
    ∷ (96 ∷ 92 ∷ 47 ∷ 42 ∷ 97 ∷ 98 ∷ 42 ∷ 47 ∷ 96 ∷ 120 ∷ [], reads 16 0 9 (reads 6 9 10 all_read), reads 16 0 9 (reads 6 9 10 all_read))
    ∷ []

pub both_readings : (map (λ (e : List ℕ × Answer × Answer). answer_by rune e.0) closings ≡ map (λ (e : List ℕ × Answer × Answer). e.1) closings)
    × (map (λ (e : List ℕ × Answer × Answer). answer_by first_close e.0) closings ≡ map (λ (e : List ℕ × Answer × Answer). e.2) closings)
unfolding closings shown_of number_of tokens_at tokens_of next_of token_of token_with first_of other_of left_of template_of template_body template_turn white_of run scan comment_of comment_end comment_step word_of operator_of find_one find_two find_three look_one look_two look_three ones twos threes in_ranges white_space xid_start xid_continue rest decode from first lead_of width
both_readings = (refl, refl)
