-- Document 01, "The lookahead buffer": what each call answers, emits and leaves.
use Rattle.std.specs.Prelude.{ℕ, zero, suc, ◌+◌, ◌-◌, ◌%◌, ◌≤◌, ◌<◌, List, [], ◌++◌, Result, Ok, Err, leb, eqb, is_ok, get_or, length, set}
use Rattle.laws.specs.Bools.{pick}
use Rattle.looks.specs.Answer.{done}
use Rattle.looks.specs.Buffer.{State, fill, fits, gathers, ring_at, state_of}
use Rattle.looks.specs.Front.{front_words, less_held, less_waiting, nth_of, nth_words, white_of, white_words, yes}
use Rattle.looks.specs.Sound.{count_sum, sound_by}
use Rattle.looks.specs.declared.look.Done.{Done}
use Rattle.looks.specs.declared.look.Stop.{Stop}
use Rattle.looks.specs.declared.look.Stop.TheVariants.{Faulty, PastHeld, StoreShort, TooFar, WaitingFull}
use Rattle.looks.specs.declared.rooms.Want.{Want}
use Rattle.looks.specs.declared.rooms.Want.TheVariants.{Both, Of, White}
use Rattle.ahead.specs.declared.Nums.{Nums}
use Rattle.rows.specs.Rows.{row_place, row_size}

abbrev pub with_nums : Nums → State → State
with_nums m f = state_of m f.held f.counts f.waiting

-- the state after `flush`: no white space is left before the first held token
abbrev pub flushed : State → State
flushed f = state_of (less_waiting (white_of f) f.nums) f.held (set f.counts (f.nums.held_at % 8) 0) f.waiting

-- the state after `bump`
abbrev pub bumped : State → State
bumped f = with_nums (less_held (less_waiting (white_of f) f.nums)) f

-- the state after a call, its answer, and the words that it writes to the front of its store
pub record Turn : Type 0 where
  pub state : State
  pub answer : Result Done Stop
  pub written : List ℕ

-- a refusal: state and store stay unchanged
abbrev pub refuses : Stop → State → Turn
refuses stop st = record { state = st; answer = Err stop; written = [] }

-- an answer that writes nothing
abbrev pub shows : ℕ → State → Turn
shows value f = record { state = f; answer = done 0 value 0 0; written = [] }

-- the first of 34 for the state, 30 and 31
unfoldable pub fill_refusal : ℕ → List ℕ → ℕ → State → Result Unit Stop
fill_refusal t l n st = pick (sound_by t l st) (pick (leb n 7) (pick (fits l n st.nums) (Ok tt) (Err WaitingFull)) (Err TooFar)) (Err Faulty)

abbrev pub filled_to : ℕ → List ℕ → ℕ → State → State
filled_to t l n st = pick (is_ok (fill_refusal t l n st)) (fill l n st) st

-- where the test refuses nothing is done
abbrev pub unless : {A : Type 0} → Result A Stop → State → Turn → Turn
unless (Ok a) st turn = turn
unless (Err stop) st turn = refuses stop st

-- what is asked of the state with n + 1 held
abbrev pub filled_by : ℕ → List ℕ → ℕ → State → (State → Turn) → Turn
filled_by t l n st asked = unless (fill_refusal t l n st) st (asked (fill l n st))

-- 33, last: the store is short of what is to be written
abbrev pub stored_by : ℕ → State → Turn → Turn
stored_by room st turn = pick (leb (length turn.written) room) turn (refuses StoreShort st)

-- how many words a call of the front writes: the white space alone, the token too, or both if it is of the kind and else nothing
unfoldable pub need_by : Want → ℕ → ℕ → ℕ
need_by White white found = row_place white
need_by Both white found = row_place white + row_size
need_by (Of kind) white found = pick (eqb found kind) (row_place white + row_size) 0

abbrev pub need_of : List ℕ → Want → State → ℕ
need_of l want f = need_by want (white_of f) (get_or (nth_of l 0 f) 0 0)

-- one test after another
abbrev pub after : Result Unit Stop → Result Unit Stop → Result Unit Stop
after (Ok u) next = next
after (Err stop) next = Err stop

-- the first of 34, 31 and 33 for it
unfoldable pub room_refusal : ℕ → List ℕ → Want → ℕ → State → Result Unit Stop
room_refusal t l want room st = after (fill_refusal t l 0 st) (pick (leb (need_of l want (fill l 0 st)) room) (Ok tt) (Err StoreShort))

abbrev pub room_to : ℕ → List ℕ → Want → ℕ → State → State
room_to t l want room st = pick (is_ok (room_refusal t l want room st)) (fill l 0 st) st

-- no more is emitted than waits, and the waiting ones start in their ring
abbrev pub Emittable : State → Type 0
Emittable f = (white_of f ≤ f.nums.wait_len) × (f.nums.wait_at < 256)

-- `fill(n)` reads until n + 1 are held or the list ends
unfoldable pub fill_by : ℕ → List ℕ → ℕ → State → Turn
fill_by t l n st = filled_by t l n st (shows 0)

-- `nth(n)`: a kind, 67 past the list's end. `peek` is `nth(0)`
unfoldable pub nth_by : ℕ → List ℕ → ℕ → State → Turn
nth_by t l n st = filled_by t l n st (λ f. shows (get_or (nth_of l n f) 0 0) f)

unfoldable pub nth_token_by : ℕ → List ℕ → ℕ → State → Turn
nth_token_by t l n st =
    filled_by t l n st
    (λ f. record { state = f; answer = done 0 (get_or (nth_of l n f) 0 0) (get_or (nth_of l n f) 1 0) (get_or (nth_of l n f) 2 0); written = [] })

-- `glued(n)` shows a kind only at count 0, else 67
abbrev pub glued_kind : List ℕ → ℕ → Nums → List ℕ → List ℕ → ℕ
glued_kind l n m held counts = pick (eqb (ring_at 8 counts m.held_at n) 0) (get_or (nth_words l n m held) 0 0) 67

unfoldable pub glued_by : ℕ → List ℕ → ℕ → State → Turn
glued_by t l n st = filled_by t l n st (λ f. shows (glued_kind l n f.nums f.held f.counts) f)

unfoldable pub is_eof_by : ℕ → List ℕ → State → Turn
is_eof_by t l st = filled_by t l 0 st (λ f. shows (yes (eqb (get_or (nth_of l 0 f) 0 0) 67)) f)

-- `flush_ws` emits what waits before the first held token, or all if none is held, and answers a point at that token's start, or the end
abbrev pub flush_turn : List ℕ → State → Turn
flush_turn l f = record { state = flushed f; answer = done (white_of f) 0 (get_or (nth_of l 0 f) 1 0) (get_or (nth_of l 0 f) 1 0); written = white_words l f }

unfoldable pub flush_by : ℕ → List ℕ → ℕ → State → Turn
flush_by t l room st = filled_by t l 0 st (λ f. stored_by room st (flush_turn l f))

-- the front is emitted
abbrev pub front_turn : List ℕ → Result Done Stop → State → Turn
front_turn l answer f = record { state = bumped f; answer = answer; written = front_words l f }

-- `bump` at the end emits an end-of-file token each time
abbrev pub bump_answer : ℕ → List ℕ → Result Done Stop
bump_answer white words = done (white + 1) (get_or words 0 0) (get_or words 1 0) (get_or words 2 0)

unfoldable pub bump_by : ℕ → List ℕ → ℕ → State → Turn
bump_by t l room st = filled_by t l 0 st (λ f. stored_by room st (front_turn l (bump_answer (white_of f) (nth_of l 0 f)) f))

unfoldable pub bump_if_by : ℕ → List ℕ → ℕ → ℕ → State → Turn
bump_if_by t l kind room st =
    filled_by t l 0 st
    (λ f. stored_by room st (pick (eqb (get_or (nth_of l 0 f) 0 0) kind) (front_turn l (done (white_of f + 1) 1 0 0) f) (shows 0 f)))

-- n held tokens emitted, each with what waits before it
unfoldable pub advanced : ℕ → State → State
advanced zero f = f
advanced (suc n) f = advanced n (bumped f)

unfoldable pub advance_words : List ℕ → ℕ → State → List ℕ
advance_words l zero f = []
advance_words l (suc n) f = front_words l f ++ advance_words l n (bumped f)

-- `advance(n)` fills nothing; 32 past the held tokens
unfoldable pub advance_refusal : ℕ → List ℕ → ℕ → State → Result Unit Stop
advance_refusal t l n st = pick (sound_by t l st) (pick (leb n st.nums.held_len) (Ok tt) (Err PastHeld)) (Err Faulty)

abbrev pub advance_turn : List ℕ → ℕ → State → Turn
advance_turn l n st = record { state = advanced n st; answer = done (count_sum st.counts n st.nums.held_at + n) 0 0 0; written = advance_words l n st }

unfoldable pub advance_by : ℕ → List ℕ → ℕ → ℕ → State → Turn
advance_by t l n room st = unless (advance_refusal t l n st) st (stored_by room st (advance_turn l n st))

-- the tokens from i on, n of them, held or end-of-file
unfoldable pub array_words : List ℕ → ℕ → ℕ → Nums → List ℕ → List ℕ
array_words l zero i m held = []
array_words l (suc n) i m held = nth_words l i m held ++ array_words l n (i + 1) m held

-- `array(n)` puts n tokens into the store and emits none; 0 fills nothing
unfoldable pub array_refusal : ℕ → List ℕ → ℕ → State → Result Unit Stop
array_refusal t l n st = pick (eqb n 0) (pick (sound_by t l st) (Ok tt) (Err Faulty)) (fill_refusal t l (n - 1) st)

abbrev pub array_turn : List ℕ → ℕ → State → Turn
array_turn l n f = record { state = f; answer = done n 0 0 0; written = array_words l n 0 f.nums f.held }

unfoldable pub array_by : ℕ → List ℕ → ℕ → ℕ → State → Turn
array_by t l n room st = unless (array_refusal t l n st) st (stored_by room st (array_turn l n (gathers l (n - st.nums.held_len) st)))
