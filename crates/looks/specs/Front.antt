-- Document 01, "The lookahead buffer": what stands in front of a filled state, and the numbers once it is emitted.
use Rattle.std.specs.Prelude.{ℕ, zero, suc, ◌+◌, ◌-◌, ◌%◌, ◌≡◌, List, [], ◌++◌, ltb, eqb, get_or}
pub use Rattle.ahead.specs.View.{yes}
use Rattle.laws.specs.Bools.{pick}
use Rattle.looks.specs.Buffer.{State, fill, ring_at, state_of}
use Rattle.looks.specs.Numbered.{eof_words, token_at}
use Rattle.ahead.specs.declared.Nums.{Nums}

-- the words of the n-th held token, or the end-of-file token
unfoldable pub nth_words : List ℕ → ℕ → Nums → List ℕ → List ℕ
nth_words l n m held = pick (ltb n m.held_len) (token_at l (ring_at 8 held m.held_at n)) (eof_words l)

-- what waits before the first held token, or all if none is held
unfoldable pub front_white : Nums → List ℕ → ℕ
front_white m counts = pick (eqb m.held_len 0) m.wait_len (ring_at 8 counts m.held_at 0)

-- the first n that wait in a ring, from the slot `at` on
unfoldable pub wait_words : ℕ → List ℕ → List ℕ → ℕ → List ℕ
wait_words zero l ring at = []
wait_words (suc n) l ring at = token_at l (get_or ring (at % 256) 0) ++ wait_words n l ring (at + 1)

abbrev pub white_of : State → ℕ
white_of f = front_white f.nums f.counts

abbrev pub nth_of : List ℕ → ℕ → State → List ℕ
nth_of l n f = nth_words l n f.nums f.held

abbrev pub white_words : List ℕ → State → List ℕ
white_words l f = wait_words (white_of f) l f.waiting f.nums.wait_at

-- the first held token and what waits before it, or all that waits and the end-of-file token
abbrev pub front_words : List ℕ → State → List ℕ
front_words l f = white_words l f ++ nth_of l 0 f

-- the numbers once n that waited are emitted, and once the first held token is
unfoldable pub less_waiting : ℕ → Nums → Nums
less_waiting n m = record { next = m.next; held_at = m.held_at; held_len = m.held_len; wait_at = (m.wait_at + n) % 256; wait_len = m.wait_len - n; keep = m.keep }

unfoldable pub less_held : Nums → Nums
less_held m =
    pick (eqb m.held_len 0) m
    (record { next = m.next; held_at = (m.held_at + 1) % 8; held_len = m.held_len - 1; wait_at = m.wait_at; wait_len = m.wait_len; keep = m.keep })

-- so many tokens of white space and this token will stand in front of the filled state, whatever waits now
abbrev pub Fronted : List ℕ → Nums → List ℕ → List ℕ → ℕ → List ℕ → Type 0
Fronted l m held counts white words =
    (w : List ℕ) → (white ≡ white_of (fill l 0 (state_of m held counts w))) × (words ≡ nth_of l 0 (fill l 0 (state_of m held counts w)))
