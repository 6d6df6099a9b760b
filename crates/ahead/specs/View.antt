-- Document 01, "The lookahead buffer": the state that is lent, as the definitions of the calls have it.
use Rattle.std.specs.Prelude.{ℕ, List, Bool, get_or, replicate}
use Rattle.ahead.specs.declared.Ahead.{Ahead}
use Rattle.ahead.specs.declared.Nums.{Nums}
use Rattle.std.specs.Int.{from_bool}

-- the numbers, by the six words of the state
abbrev pub nums_of : List ℕ → Nums
nums_of w = record { next = get_or w 0 0; keep = get_or w 1 0; held_at = get_or w 2 0; held_len = get_or w 3 0; wait_at = get_or w 4 0; wait_len = get_or w 5 0 }

-- the state: its numbers, the held tokens by number, the count of white space before each, and the waiting white space by number
pub record State : Type 0 where
  pub nums : Nums
  pub held : List ℕ
  pub counts : List ℕ
  pub waiting : List ℕ

abbrev pub state_of : Nums → List ℕ → List ℕ → List ℕ → State
state_of m held counts waiting = record { nums = m; held = held; counts = counts; waiting = waiting }

abbrev pub view_of : Ahead → State
view_of a = state_of (nums_of a.nums) a.held a.counts a.waiting

-- 1 for yes, 0 for no
abbrev pub yes : Bool → ℕ
yes b = from_bool b

-- a fresh state: nothing is held, nothing waits, and white space is kept or dropped
abbrev pub fresh_by : Bool → State
fresh_by keep =
    state_of (record { next = 0; held_at = 0; held_len = 0; wait_at = 0; wait_len = 0; keep = yes keep }) (replicate 8 0) (replicate 8 0) (replicate 256 0)
