-- Document 01, "The lookahead buffer": any sequence of calls, and what it has emitted.
use Rattle.std.specs.Prelude.{ℕ, ◌/◌, ◌≤◌, ◌≡◌, List, [], ◌∷◌, ◌++◌, Bool, Result, is_ok, eqb, length, take}
use Rattle.laws.specs.Bools.{pick}
use Rattle.looks.specs.Buffer.{State}
use Rattle.looks.specs.Calls.{Turn, advance_by, array_by, bump_by, bump_if_by, fill_by, flush_by, glued_by, is_eof_by, nth_by, nth_token_by}
use Rattle.looks.specs.Numbered.{is_white}
use Rattle.looks.specs.While.{bump_while_by}
use Rattle.looks.specs.declared.look.Done.{Done}
use Rattle.looks.specs.declared.look.Stop.{Stop}
use Rattle.rows.specs.Rows.{row_place, row_size}

-- a call with its arguments; those that write have the words of room that their store has. `peek` is `nth` of 0
pub data Call : Type 0 where
  fills : ℕ → Call
  nths : ℕ → Call
  tokens : ℕ → Call
  glues : ℕ → Call
  ends : Call
  flushes : ℕ → Call
  bumps : ℕ → Call
  bumps_if : ℕ → ℕ → Call
  bumps_while : ℕ → ℕ → Call
  advances : ℕ → ℕ → Call
  arrays : ℕ → ℕ → Call

-- what a call does: with t = 0 as document 01 says; else the list and the state were tested before
abbrev pub turn_of : ℕ → List ℕ → Call → State → Turn
turn_of t l (fills n) st = fill_by t l n st
turn_of t l (nths n) st = nth_by t l n st
turn_of t l (tokens n) st = nth_token_by t l n st
turn_of t l (glues n) st = glued_by t l n st
turn_of t l ends st = is_eof_by t l st
turn_of t l (flushes room) st = flush_by t l room st
turn_of t l (bumps room) st = bump_by t l room st
turn_of t l (bumps_if kind room) st = bump_if_by t l kind room st
turn_of t l (bumps_while kind room) st = bump_while_by t l kind room st
turn_of t l (advances n room) st = advance_by t l n room st
turn_of t l (arrays n room) st = array_by t l n room st

-- `array` shows tokens and emits none
abbrev pub emitted_by : Call → Turn → List ℕ
emitted_by (fills n) t = t.written
emitted_by (nths n) t = t.written
emitted_by (tokens n) t = t.written
emitted_by (glues n) t = t.written
emitted_by ends t = t.written
emitted_by (flushes room) t = t.written
emitted_by (bumps room) t = t.written
emitted_by (bumps_if kind room) t = t.written
emitted_by (bumps_while kind room) t = t.written
emitted_by (advances n room) t = t.written
emitted_by (arrays n room) t = []

-- the words that calls emit one after the other, from a state on
unfoldable pub emitted : (Call → State → Turn) → List Call → State → List ℕ
emitted turn [] st = []
emitted turn (call ∷ calls) st = emitted_by call (turn call st) ++ emitted turn calls (turn call st).state

-- the tokens of a list, three words each, less those whose kind is meant by a test
unfoldable pub without : (ℕ → Bool) → List ℕ → List ℕ
without test [] = []
without test (kind ∷ []) = kind ∷ []
without test (kind ∷ start ∷ []) = kind ∷ start ∷ []
without test (kind ∷ start ∷ end ∷ l) = pick (test kind) (without test l) (kind ∷ start ∷ end ∷ without test l)

abbrev pub is_end : ℕ → Bool
is_end kind = eqb kind 67

-- the first tokens of a list, all of them or those that are no white space
abbrev pub front_part : Bool → List ℕ → ℕ → List ℕ
front_part keep l count = pick keep (take (row_place count) l) (without is_white (take (row_place count) l))

pub record IsFront (keep : Bool) (l ws : List ℕ) : Type 0 where
  pub count : ℕ
  pub few : count ≤ length l / row_size
  pub is : ws ≡ front_part keep l count

abbrev pub accepted : Result Done Stop → Bool
accepted r = is_ok r
