-- Document 01, "The lookahead buffer": `bump_while`.
use Rattle.std.specs.Prelude.{ℕ, zero, suc, ◌+◌, ◌-◌, ◌≤◌, ◌<◌, ◌≡◌, List, [], ◌++◌, Bool, true, Result, Ok, Err, ltb, eqb, get_or, length}
use Rattle.laws.specs.Bools.{both, pick}
use Rattle.looks.specs.Answer.{done}
use Rattle.looks.specs.Buffer.{State, fill, fits, gather_nums}
use Rattle.looks.specs.Calls.{Turn, bumped, stored_by, unless}
use Rattle.looks.specs.Front.{front_words, nth_words, white_of, yes}
use Rattle.looks.specs.Numbered.{token_count}
use Rattle.looks.specs.Sound.{count_sum, sound_by}
use Rattle.looks.specs.declared.look.Stop.{Stop}
use Rattle.looks.specs.declared.look.Stop.TheVariants.{Faulty, StoreShort, WaitingFull}
use Rattle.ahead.specs.declared.Nums.{Nums}

-- the front of a filled state is a held token of the kind
abbrev pub goes_on : List ℕ → ℕ → Nums → List ℕ → Bool
goes_on l kind m held = both (ltb 0 m.held_len) (eqb (get_or (nth_words l 0 m held) 0 0) kind)

-- where a run stops, how many tokens it emits, their words, and whether no 257th token waits meanwhile
pub record Run : Type 0 where
  pub fitting : Bool
  pub state : State
  pub count : ℕ
  pub written : List ℕ

abbrev pub stops : State → Run
stops f = record { fitting = true; state = f; count = 0; written = [] }

abbrev pub emits_then : List ℕ → State → Bool → Run → Run
emits_then l f fit r = record { fitting = both fit r.fitting; state = r.state; count = white_of f + 1 + r.count; written = front_words l f ++ r.written }

-- from a filled state on, at most n tokens that are held
unfoldable pub run_of : List ℕ → ℕ → ℕ → State → Run
run_of l kind zero f = stops f
run_of l kind (suc n) f =
    pick (goes_on l kind f.nums f.held)
    (emits_then l f (fits l 0 (bumped f).nums) (run_of l kind n (fill l 0 (bumped f))))
    (stops f)

-- as many tokens as are held or still in the list
abbrev pub tokens_left : List ℕ → Nums → ℕ
tokens_left l m = m.held_len + (token_count l - m.next)

-- the count; 31, or 33 where kind 67 was asked for and the run came to the end, since it would never stop there
unfoldable pub plan_of : List ℕ → ℕ → ℕ → ℕ → State → Result ℕ Stop
plan_of l kind before n st =
    pick (both (fits l 0 st.nums) (run_of l kind n (fill l 0 st)).fitting)
    (pick (both (eqb kind 67) (eqb (run_of l kind n (fill l 0 st)).state.nums.held_len 0))
    (Err StoreShort)
    (Ok (before + (run_of l kind n (fill l 0 st)).count)))
    (Err WaitingFull)

abbrev pub while_plan : List ℕ → ℕ → State → Result ℕ Stop
while_plan l kind st = plan_of l kind 0 (tokens_left l st.nums) st

abbrev pub while_run : List ℕ → ℕ → State → Run
while_run l kind st = run_of l kind (tokens_left l st.nums) (fill l 0 st)

unfoldable pub while_refusal : ℕ → List ℕ → ℕ → State → Result ℕ Stop
while_refusal t l kind st = pick (sound_by t l st) (while_plan l kind st) (Err Faulty)

abbrev pub while_turn : Run → Turn
while_turn r = record { state = r.state; answer = done r.count (yes (ltb 0 r.count)) 0 0; written = r.written }

unfoldable pub bump_while_by : ℕ → List ℕ → ℕ → ℕ → State → Turn
bump_while_by t l kind room st = unless (while_refusal t l kind st) st (stored_by room st (while_turn (while_run l kind st)))

-- the numbers of a state once it is filled
abbrev pub fill_nums : List ℕ → Nums → Nums
fill_nums l m = pick (eqb m.held_len 0) (gather_nums l m) m

-- what a plan asks of the numbers
pub record Plannable (l : List ℕ) (m : Nums) (held counts : List ℕ) : Type 0 where
  pub reach : m.next ≤ token_count l
  pub held_few : m.held_len ≤ 8
  pub wait_few : m.wait_len ≤ 256
  pub held_in : m.held_at < 8
  pub wait_in : m.wait_at < 256
  pub held_size : length held ≡ 8
  pub counts_size : length counts ≡ 8
  pub sum : count_sum counts m.held_len m.held_at ≤ m.wait_len
