-- The examples of document 02's A2 as one table that the definitions compute. Assumes nothing.
use Prim.Native.Nat.{ℕ}
use mathlib.Core.Path.{◌≡◌, refl}
use mathlib.Core.List.{List, [], ◌∷◌, map}
use Rattle.choice.specs.Rule.{first_of, left_of, other_of, token_with}
use Rattle.classes.specs.Classes.{white_space, xid_continue, xid_start}
use Rattle.families.proofs.Starred.{Answer, all_read, answer_by, reads, refuses, shown_of}
use Rattle.families.specs.Tokens.{tokens_at, tokens_of}
use Rattle.laws.specs.Tables.{in_ranges}
use Rattle.lexer.specs.Next.{next_of}
use Rattle.numbers.specs.Kinds.{number_of}
use Rattle.operators.specs.Operators.{find_one, find_three, find_two, look_one, look_three, look_two, ones, operator_of, threes, twos}
use Rattle.readers.specs.Numbers.{number_end, number_lit_of, number_step}
use Rattle.readers.specs.Readers.{run, white_of, word_of}
use Rattle.readers.specs.Rules.{rune}
use Rattle.readers.specs.Scan.{scan}
use Rattle.templates.specs.Body.{token_of}
use Rattle.text.specs.Utf8.{decode, first, from, lead_of, rest, second_fits, three_of, width}

-- a source's bytes and its answer
unfoldable pub exponent_examples : List (List ℕ × Answer)
exponent_examples =
    -- 1e-3
    (49 ∷ 101 ∷ 45 ∷ 51 ∷ [], reads 8 0 4 all_read)
    -- 1.5e+2
    ∷ (49 ∷ 46 ∷ 53 ∷ 101 ∷ 43 ∷ 50 ∷ [], reads 8 0 6 all_read)
    -- 1_0E-0_3;
    ∷ (49 ∷ 95 ∷ 48 ∷ 69 ∷ 45 ∷ 48 ∷ 95 ∷ 51 ∷ 59 ∷ [], reads 8 0 8 (reads 31 8 9 all_read))
    -- 0e-3
    ∷ (48 ∷ 101 ∷ 45 ∷ 51 ∷ [], reads 8 0 4 all_read)
    -- 1e-3.5
    ∷ (49 ∷ 101 ∷ 45 ∷ 51 ∷ 46 ∷ 53 ∷ [], reads 8 0 4 (reads 28 4 5 (reads 8 5 6 all_read)))
    -- 1e-3e-4
    ∷ (49 ∷ 101 ∷ 45 ∷ 51 ∷ 101 ∷ 45 ∷ 52 ∷ [], reads 8 0 4 (reads 6 4 5 (reads 27 5 6 (reads 8 6 7 all_read))))
    -- 1e-x
    ∷ (49 ∷ 101 ∷ 45 ∷ 120 ∷ [], reads 8 0 2 (reads 27 2 3 (reads 6 3 4 all_read)))
    -- 0xe-3
    ∷ (48 ∷ 120 ∷ 101 ∷ 45 ∷ 51 ∷ [], reads 8 0 3 (reads 27 3 4 (reads 8 4 5 all_read)))
    -- 0b1e-3
    ∷ (48 ∷ 98 ∷ 49 ∷ 101 ∷ 45 ∷ 51 ∷ [], reads 8 0 4 (reads 27 4 5 (reads 8 5 6 all_read)))
    -- 0o7e+1
    ∷ (48 ∷ 111 ∷ 55 ∷ 101 ∷ 43 ∷ 49 ∷ [], reads 8 0 4 (reads 25 4 5 (reads 8 5 6 all_read)))
    -- 1ae-3
    ∷ (49 ∷ 97 ∷ 101 ∷ 45 ∷ 51 ∷ [], reads 8 0 3 (reads 27 3 4 (reads 8 4 5 all_read)))
    -- 1e5e-3
    ∷ (49 ∷ 101 ∷ 53 ∷ 101 ∷ 45 ∷ 51 ∷ [], reads 8 0 4 (reads 27 4 5 (reads 8 5 6 all_read)))
    -- 1ee-3
    ∷ (49 ∷ 101 ∷ 101 ∷ 45 ∷ 51 ∷ [], reads 8 0 3 (reads 27 3 4 (reads 8 4 5 all_read)))
    -- 1e_-3
    ∷ (49 ∷ 101 ∷ 95 ∷ 45 ∷ 51 ∷ [], reads 8 0 3 (reads 27 3 4 (reads 8 4 5 all_read)))
    -- 1.5.2e-1
    ∷ (49 ∷ 46 ∷ 53 ∷ 46 ∷ 50 ∷ 101 ∷ 45 ∷ 49 ∷ [], reads 8 0 3 (reads 28 3 4 (reads 8 4 8 all_read)))
    -- 0x1.5e+2
    ∷ (48 ∷ 120 ∷ 49 ∷ 46 ∷ 53 ∷ 101 ∷ 43 ∷ 50 ∷ [], reads 8 0 6 (reads 25 6 7 (reads 8 7 8 all_read)))
    -- 0Xe-3
    ∷ (48 ∷ 88 ∷ 101 ∷ 45 ∷ 51 ∷ [], reads 8 0 3 (reads 27 3 4 (reads 8 4 5 all_read)))
    -- 1e and 3 with U+2212 between them, which is no ASCII sign
    ∷ (49 ∷ 101 ∷ 226 ∷ 136 ∷ 146 ∷ 51 ∷ [], reads 8 0 2 (refuses 18 2 5))
    ∷ []

pub exponents_read : map (λ (e : List ℕ × Answer). answer_by rune e.0) exponent_examples ≡ map (λ (e : List ℕ × Answer). e.1) exponent_examples
unfolding exponent_examples shown_of number_of tokens_at tokens_of next_of token_of token_with first_of other_of left_of white_of run scan word_of number_lit_of number_end number_step operator_of find_one find_two find_three look_one look_two look_three ones twos threes in_ranges white_space xid_start xid_continue rest decode from first lead_of second_fits three_of width
exponents_read = refl
