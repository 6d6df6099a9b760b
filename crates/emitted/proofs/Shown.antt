-- Document 01's calls of the lookahead on one small list, by computation: ` a ;b`, white space kept. Assumes nothing.
use Prim.Native.Nat.{ℕ}
use mathlib.Core.Path.{◌≡◌, refl}
use mathlib.Core.List.{List, [], ◌∷◌, map}
use mathlib.Core.Bool.{true}
use Rattle.std.specs.Prelude.{Result, Err}
use Rattle.ahead.specs.View.{fresh_by}
use Rattle.emitted.specs.Sequence.{Call, advances, arrays, bumps, bumps_if, bumps_while, ends, fills, flushes, glues, nths, tokens, turn_of}
use Rattle.looks.specs.Answer.{done}
use Rattle.looks.specs.Buffer.{State, fits_for, gather_at, gather_to, gathers, queued}
use Rattle.looks.specs.Calls.{advance_by, advance_refusal, advance_words, advanced, array_by, array_refusal, array_words, bump_by, bump_if_by, fill_by, fill_refusal, flush_by, glued_by, is_eof_by, nth_by, nth_token_by}
use Rattle.looks.specs.Front.{front_white, less_held, less_waiting, nth_words, wait_words}
use Rattle.looks.specs.Numbered.{dark_from, list_end, token_count}
use Rattle.looks.specs.Sound.{ascends_by, bounded_by, count_sum, ordered_by, sound_by, whole_by}
use Rattle.looks.specs.While.{bump_while_by, plan_of, run_of, while_refusal}
use Rattle.looks.specs.declared.look.Done.{Done}
use Rattle.looks.specs.declared.look.Stop.{Stop}
use Rattle.looks.specs.declared.look.Stop.TheVariants.{PastHeld, StoreShort, TooFar}
use Rattle.rows.specs.Rows.{list_check, record_check, rows_check, rows_of}

-- a blank, a word, a blank, `;` and a word
unfoldable pub small : List ℕ
small = 1 ∷ 0 ∷ 1 ∷ 6 ∷ 1 ∷ 2 ∷ 1 ∷ 2 ∷ 3 ∷ 31 ∷ 3 ∷ 4 ∷ 6 ∷ 4 ∷ 5 ∷ []

abbrev pub Shown : Type 0
Shown = Result Done Stop × List ℕ

-- what the last of some calls answers and writes
unfoldable pub last_of : Call → List Call → State → Shown
last_of c [] st = ((turn_of 0 small c st).answer, (turn_of 0 small c st).written)
last_of c (d ∷ cs) st = last_of d cs (turn_of 0 small c st).state

unfoldable pub examples : List (Call × List Call × Shown)
examples =
    (fills 1, [], (done 0 0 0 0, []))
    ∷ (nths 0, [], (done 0 6 0 0, []))
    ∷ (nths 1, [], (done 0 31 0 0, []))
    ∷ (nths 3, [], (done 0 67 0 0, []))
    ∷ (nths 8, [], (Err TooFar, []))
    ∷ (tokens 1, [], (done 0 31 3 4, []))
    ∷ (glues 1, [], (done 0 67 0 0, []))
    ∷ (glues 2, [], (done 0 6 0 0, []))
    ∷ (ends, [], (done 0 0 0 0, []))
    -- with two held, what waits before the first is flushed alone
    ∷ (fills 1, flushes 99 ∷ [], (done 1 0 1 1, 1 ∷ 0 ∷ 1 ∷ []))
    ∷ (bumps 99, [], (done 2 6 1 2, 1 ∷ 0 ∷ 1 ∷ 6 ∷ 1 ∷ 2 ∷ []))
    -- the second is another
    ∷ (bumps 99, bumps 99 ∷ [], (done 2 31 3 4, 1 ∷ 2 ∷ 3 ∷ 31 ∷ 3 ∷ 4 ∷ []))
    ∷ (bumps 5, [], (Err StoreShort, []))
    -- and a refused one lets nothing go
    ∷ (bumps 5, bumps 6 ∷ [], (done 2 6 1 2, 1 ∷ 0 ∷ 1 ∷ 6 ∷ 1 ∷ 2 ∷ []))
    ∷ (bumps 99, bumps 99 ∷ bumps 99 ∷ bumps 99 ∷ [], (done 1 67 5 5, 67 ∷ 5 ∷ 5 ∷ []))
    ∷ (bumps_if 31 99, [], (done 0 0 0 0, []))
    ∷ (bumps_if 6 99, [], (done 2 1 0 0, 1 ∷ 0 ∷ 1 ∷ 6 ∷ 1 ∷ 2 ∷ []))
    ∷ (bumps_while 6 99, [], (done 2 1 0 0, 1 ∷ 0 ∷ 1 ∷ 6 ∷ 1 ∷ 2 ∷ []))
    ∷ (advances 1 99, [], (Err PastHeld, []))
    ∷ (fills 1, advances 2 99 ∷ [], (done 4 0 0 0, 1 ∷ 0 ∷ 1 ∷ 6 ∷ 1 ∷ 2 ∷ 1 ∷ 2 ∷ 3 ∷ 31 ∷ 3 ∷ 4 ∷ []))
    ∷ (arrays 2 99, [], (done 2 0 0 0, 6 ∷ 1 ∷ 2 ∷ 31 ∷ 3 ∷ 4 ∷ []))
    ∷ []

pub shown : map (λ (e : Call × List Call × Shown). last_of e.0 e.1 (fresh_by true)) examples ≡ map (λ (e : Call × List Call × Shown). e.2) examples
unfolding examples last_of small fill_by nth_by nth_token_by glued_by is_eof_by flush_by bump_by bump_if_by bump_while_by advance_by array_by fill_refusal advance_refusal advance_words advanced array_refusal array_words fits_for gather_at gather_to gathers queued front_white less_held less_waiting nth_words wait_words dark_from list_end token_count ascends_by bounded_by count_sum ordered_by sound_by whole_by plan_of run_of while_refusal list_check record_check rows_check rows_of
shown = refl
