-- The six words of the numbers, once some of them were written; and the short tests. Assumes nothing.
use Prim.Native.Nat.{ℕ, ◌+◌, ◌-◌, ◌*◌, ◌/◌, ◌%◌, ◌≤◌, ◌<◌}
use mathlib.Core.Path.{◌≡◌, refl, sym, ◌∙◌}
use mathlib.Core.List.{List}
use mathlib.Core.Bool.{true}
use native.Mathlib.Omega.{arith}
use lib.Dec.{leb, ltb, eqb}
use lib.ListN.{get_or, length, set}
use borrow.Author.Tests.{eqb-true, le-leb, lt-leb, ltb-true, ne_eqb}
use Rattle.ahead.proofs.Lent.{by_six}
use Rattle.laws.proofs.Cases.{both_inv, split_le}
use Rattle.laws.specs.Bools.{both}
use Rattle.looks.specs.Buffer.{nums_of, state_of}
use Rattle.looks.specs.Front.{less_held, less_waiting}
use Rattle.looks.specs.Numbered.{token_count}
use Rattle.looks.specs.Sound.{count_sum, none_by, some_by, sound_by}
use Rattle.ahead.specs.declared.Nums.{Nums}

module _ (w : List ℕ) (h : length w ≡ 6) (x y z : ℕ) where
  pub six_last : nums_of (set (set w 5 x) 0 y) ≡ record { next = y; keep = get_or w 1 0; held_at = get_or w 2 0; held_len = get_or w 3 0; wait_at = get_or w 4 0; wait_len = x }
  six_last = by_six (λ v. nums_of (set (set v 5 x) 0 y) ≡ record { next = y; keep = get_or v 1 0; held_at = get_or v 2 0; held_len = get_or v 3 0; wait_at = get_or v 4 0; wait_len = x }) (λ a b c d e f. refl) w h

  pub six_more : nums_of (set (set (set w 5 x) 0 y) 3 z) ≡ record { next = y; keep = get_or w 1 0; held_at = get_or w 2 0; held_len = z; wait_at = get_or w 4 0; wait_len = x }
  six_more = by_six (λ v. nums_of (set (set (set v 5 x) 0 y) 3 z) ≡ record { next = y; keep = get_or v 1 0; held_at = get_or v 2 0; held_len = z; wait_at = get_or v 4 0; wait_len = x }) (λ a b c d e f. refl) w h

  pub six_wait : nums_of (set (set w 4 x) 5 y) ≡ record { next = get_or w 0 0; keep = get_or w 1 0; held_at = get_or w 2 0; held_len = get_or w 3 0; wait_at = x; wait_len = y }
  six_wait = by_six (λ v. nums_of (set (set v 4 x) 5 y) ≡ record { next = get_or v 0 0; keep = get_or v 1 0; held_at = get_or v 2 0; held_len = get_or v 3 0; wait_at = x; wait_len = y }) (λ a b c d e f. refl) w h

  pub six_held : nums_of (set (set w 2 x) 3 y) ≡ record { next = get_or w 0 0; keep = get_or w 1 0; held_at = x; held_len = y; wait_at = get_or w 4 0; wait_len = get_or w 5 0 }
  six_held = by_six (λ v. nums_of (set (set v 2 x) 3 y) ≡ record { next = get_or v 0 0; keep = get_or v 1 0; held_at = x; held_len = y; wait_at = get_or v 4 0; wait_len = get_or v 5 0 }) (λ a b c d e f. refl) w h

-- a number of a token lies in the list where its words do
pub reach_words : (l : List ℕ) (n : ℕ) → n ≤ 4294967295 → leb (n * 3) (length l) ≡ leb n (token_count l)
unfolding token_count
reach_words l n h =
    split_le (length l / 3) 4294967295
    (λ s. rw (le-leb _ _ s)
    (split_le (n * 3) (length l)
    (λ a. le-leb _ _ a ∙ sym (le-leb n (length l / 3) (omega arith)))
    (λ a. lt-leb _ _ a ∙ sym (lt-leb n (length l / 3) (omega arith)))))
    (λ s. rw (lt-leb _ _ s) (le-leb (n * 3) (length l) (omega arith) ∙ sym (le-leb n 4294967295 h)))

module _ (t : ℕ) (l : List ℕ) (m : Nums) (held counts waiting : List ℕ) where
  pub some_sound : some_by t l m counts ≡ true → (sound_by t l (state_of m held counts waiting) ≡ true) × (0 < m.held_len)
  unfolding some_by sound_by
  some_sound e =
      let a = both_inv (both (ltb 0 t) (ltb 0 m.held_len)) _ e in
      let b = both_inv (ltb 0 t) (ltb 0 m.held_len) a.0 in
      (rw (a.1, b.0), ltb-true _ _ b.1)

  pub none_sound : none_by t l m ≡ true → (sound_by t l (state_of m held counts waiting) ≡ true) × (m.held_len ≡ 0)
  unfolding none_by sound_by count_sum
  none_sound e =
      let a = both_inv (both (ltb 0 t) (eqb m.held_len 0)) _ e in
      let b = both_inv (ltb 0 t) (eqb m.held_len 0) a.0 in
      let z : m.held_len ≡ 0 = eqb-true m.held_len 0 b.1 in
      (rw (a.1, b.0, z) (rw (le-leb 0 m.wait_len (omega arith))), z)

-- what `take_waiting` and `take_held` leave
module _ (w : List ℕ) (six : length w ≡ 6) where
  pub took_waiting : (n a : ℕ) → a ≡ (get_or w 4 0 + n) % 256 → nums_of (set (set w 4 a) 5 (get_or w 5 0 - n)) ≡ less_waiting n (nums_of w)
  unfolding less_waiting
  took_waiting n a e = rw e (six_wait w six ((get_or w 4 0 + n) % 256) (get_or w 5 0 - n) 0)

  pub took_held : (a : ℕ) → (get_or w 3 0 ≡ 0 → ⊥) → a ≡ (get_or w 2 0 + 1) % 8 → nums_of (set (set w 2 a) 3 (get_or w 3 0 - 1)) ≡ less_held (nums_of w)
  unfolding less_held
  took_held a h e = rw (e, ne_eqb (get_or w 3 0) 0 h) (six_held w six ((get_or w 2 0 + 1) % 8) (get_or w 3 0 - 1) 0)

pub less_none : (m : Nums) → m.wait_at < 256 → (n : ℕ) → n ≡ 0 → less_waiting n m ≡ m
unfolding less_waiting
less_none m h n e =
    let a : (m.wait_at + 0) % 256 ≡ m.wait_at = omega arith in
    let b : m.wait_len - 0 ≡ m.wait_len = omega arith in
    rw (e, a, b)
