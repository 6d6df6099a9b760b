-- Document 01, "The lookahead buffer": the two rings of the state, and filling.
use Rattle.std.specs.Prelude.{ℕ, zero, suc, ◌+◌, ◌-◌, ◌%◌, ◌≤◌, ◌<◌, ◌≡◌, List, [], Bool, true, leb, ltb, get_or, set}
pub use Rattle.ahead.specs.View.{State, nums_of, state_of, view_of}
use Rattle.laws.specs.Bools.{both, pick}
use Rattle.looks.specs.Numbered.{dark, token_count}
use Rattle.looks.specs.declared.emit.Words.{Words}
use Rattle.ahead.specs.declared.Nums.{Nums}
use Rattle.rows.specs.Rows.{row_words}

-- the number in a ring of the given size, i after its start
abbrev pub ring_at : ℕ → List ℕ → ℕ → ℕ → ℕ
ring_at size ring at i = get_or ring ((at + i) % size) 0

-- 0 says that white space is dropped
abbrev pub keeps : Nums → Bool
keeps m = ltb 0 m.keep

-- white space is queued if kept, else dropped: so many of the tokens up to p
abbrev pub white_to : ℕ → Nums → ℕ
white_to p m = pick (keeps m) (p - m.next) 0

-- the numbers after the tokens up to p were read and p itself, where p is no white space; p is the count at the list's end
unfoldable pub gather_to : ℕ → ℕ → Nums → Nums
gather_to p count m =
    record {
      next = pick (ltb p count) (p + 1) p;
      keep = m.keep;
      held_at = m.held_at;
      held_len = pick (ltb p count) (m.held_len + 1) m.held_len;
      wait_at = m.wait_at;
      wait_len = m.wait_len + white_to p m;
    }

abbrev pub gather_nums : List ℕ → Nums → Nums
gather_nums l m = gather_to (dark l m.next) (token_count l) m

-- the tokens i, i + 1, .. in the ring of 256, n of them, from the slot `at` on
unfoldable pub queued : ℕ → List ℕ → ℕ → ℕ → List ℕ
queued zero ring at i = ring
queued (suc n) ring at i = queued n (set ring (at % 256) i) (at + 1) (i + 1)

-- x after the n of a ring of 8
abbrev pub pushed : List ℕ → ℕ → ℕ → ℕ → List ℕ
pushed ring at n x = set ring ((at + n) % 8) x

-- one more token is held, and the white space before it queued; or all that is left is white space, and is queued
unfoldable pub gather_at : ℕ → ℕ → State → State
gather_at p count st =
    record {
      nums = gather_to p count st.nums;
      held = pick (ltb p count) (pushed st.held st.nums.held_at st.nums.held_len p) st.held;
      counts = pick (ltb p count) (pushed st.counts st.nums.held_at st.nums.held_len (white_to p st.nums)) st.counts;
      waiting = queued (white_to p st.nums) st.waiting (st.nums.wait_at + st.nums.wait_len) st.nums.next;
    }

abbrev pub gather : List ℕ → State → State
gather l st = gather_at (dark l st.nums.next) (token_count l) st

unfoldable pub gathers : List ℕ → ℕ → State → State
gathers l zero st = st
gathers l (suc n) st = gathers l n (gather l st)

-- `fill(n)`: until n + 1 are held or the list ends
abbrev pub fill : List ℕ → ℕ → State → State
fill l n st = gathers l (n + 1 - st.nums.held_len) st

-- no 257th token waits meanwhile
unfoldable pub fits_for : List ℕ → ℕ → Nums → Bool
fits_for l zero m = true
fits_for l (suc n) m = both (leb (gather_nums l m).wait_len 256) (fits_for l n (gather_nums l m))

abbrev pub fits : List ℕ → ℕ → Nums → Bool
fits l n m = fits_for l (n + 1 - m.held_len) m

-- the numbers of a state from which filling goes on: the places lie in their rings, and nothing comes near a number's end
pub record Roomy (m : Nums) : Type 0 where
  pub held_in : m.held_at < 8
  pub wait_in : m.wait_at < 256
  pub held_few : m.held_len ≤ 8
  pub wait_few : m.wait_len ≤ 1099511627776

-- what so many more tokens ask of the numbers
pub record Gatherable (l : List ℕ) (times : ℕ) (m : Nums) : Type 0 where
  pub reach : m.next ≤ token_count l
  pub roomy : Roomy m
  pub held : m.held_len + times ≤ 8
  pub wait : m.wait_len ≤ 256
  pub fit : fits_for l times m ≡ true

-- a token of three words
abbrev pub words_of : Words → List ℕ
words_of w = row_words w.kind w.start w.end []
