-- What is found in small sources, as one table that the definitions compute. Assumes nothing.
use Prim.Native.Nat.{ℕ}
use mathlib.Core.Path.{◌≡◌, refl}
use mathlib.Core.List.{List, [], ◌∷◌, map}
use Rattle.choice.specs.Rule.{first_of, left_of, other_of, token_with}
use Rattle.classes.specs.Classes.{white_space, xid_continue, xid_start}
use Rattle.families.specs.Tokens.{tokens_at, tokens_of}
use Rattle.findings.specs.Findings.{across, alone, as_code, found_of, holds, holds_at, onward, runs_on, runs_on_code, walk, walk_at, words_found}
use Rattle.laws.specs.Tables.{in_ranges}
use Rattle.lexer.specs.Next.{next_of}
use Rattle.marks.specs.Marks.{close_mark, open_mark}
use Rattle.marks.specs.Shut.{is_shut}
use Rattle.numbers.specs.Kinds.{number_of}
use Rattle.operators.specs.Operators.{find_one, find_three, find_two, look_one, look_three, look_two, ones, operator_of, threes, twos}
use Rattle.readers.specs.Readers.{comment_end, comment_of, comment_step, line_of, run, white_of, word_of}
use Rattle.readers.specs.Rules.{rune}
use Rattle.readers.specs.Scan.{scan}
use Rattle.templates.specs.Body.{template_body, template_of, template_turn, token_of}
use Rattle.text.specs.Utf8.{decode, first, from, lead_of, rest, second_fits, three_of, width}

-- a source's bytes, and its findings as rune reads it, five words each
unfoldable pub finds : List (List ℕ × List ℕ)
finds =
    -- /**/x/**/: a word is gone
    (47 ∷ 42 ∷ 42 ∷ 47 ∷ 120 ∷ 47 ∷ 42 ∷ 42 ∷ 47 ∷ [], 60 ∷ 0 ∷ 9 ∷ 4 ∷ 9 ∷ [])
    -- /**/ /**/: nothing but a blank and a comment is gone
    ∷ (47 ∷ 42 ∷ 42 ∷ 47 ∷ 32 ∷ 47 ∷ 42 ∷ 42 ∷ 47 ∷ [], 61 ∷ 0 ∷ 9 ∷ 4 ∷ 9 ∷ [])
    -- /**/: closed under First, unclosed as rune reads it, and both end here
    ∷ (47 ∷ 42 ∷ 42 ∷ 47 ∷ [], 61 ∷ 0 ∷ 4 ∷ 4 ∷ 4 ∷ 63 ∷ 0 ∷ 4 ∷ 4 ∷ 4 ∷ [])
    -- /*ab*/x
    ∷ (47 ∷ 42 ∷ 97 ∷ 98 ∷ 42 ∷ 47 ∷ 120 ∷ [], [])
    -- /**/ //*/ b: the word stands in a line comment under First
    ∷ (47 ∷ 42 ∷ 42 ∷ 47 ∷ 32 ∷ 47 ∷ 47 ∷ 42 ∷ 47 ∷ 32 ∷ 98 ∷ [], 61 ∷ 0 ∷ 9 ∷ 4 ∷ 9 ∷ 62 ∷ 10 ∷ 11 ∷ 5 ∷ 11 ∷ [])
    -- `\/**/`x: the template goes on over the word
    ∷ (96 ∷ 92 ∷ 47 ∷ 42 ∷ 42 ∷ 47 ∷ 96 ∷ 120 ∷ [], 60 ∷ 0 ∷ 8 ∷ 7 ∷ 8 ∷ 64 ∷ 0 ∷ 8 ∷ 8 ∷ 8 ∷ [])
    -- `\/**/{*/` x: the template ends, and under First its brace keeps it open over the word
    ∷ (96 ∷ 92 ∷ 47 ∷ 42 ∷ 42 ∷ 47 ∷ 123 ∷ 42 ∷ 47 ∷ 96 ∷ 32 ∷ 120 ∷ [], 60 ∷ 0 ∷ 10 ∷ 10 ∷ 12 ∷ [])
    -- `\/**/{*/`: closed here and not under First, at the same place: both list the same
    ∷ (96 ∷ 92 ∷ 47 ∷ 42 ∷ 42 ∷ 47 ∷ 123 ∷ 42 ∷ 47 ∷ 96 ∷ [], [])
    -- x/*, and a backtick
    ∷ (120 ∷ 47 ∷ 42 ∷ [], 63 ∷ 1 ∷ 3 ∷ 3 ∷ 3 ∷ [])
    ∷ (96 ∷ [], 64 ∷ 0 ∷ 1 ∷ 1 ∷ 1 ∷ [])
    -- a byte order mark, after which reading is refused
    ∷ (0xEF ∷ 0xBB ∷ 0xBF ∷ 120 ∷ [], 65 ∷ 0 ∷ 3 ∷ 3 ∷ 3 ∷ [])
    ∷ []

pub finds_shown : map (λ (e : List ℕ × List ℕ). words_found (found_of rune e.0) 100) finds ≡ map (λ (e : List ℕ × List ℕ). e.1) finds
unfolding finds found_of words_found walk_at walk onward across as_code alone runs_on runs_on_code holds_at holds open_mark close_mark is_shut number_of tokens_at tokens_of next_of token_of token_with first_of other_of left_of template_of template_body template_turn white_of run scan line_of comment_of comment_end comment_step word_of operator_of find_one find_two find_three look_one look_two look_three ones twos threes in_ranges white_space xid_start xid_continue rest decode from first lead_of three_of second_fits width
finds_shown = refl
