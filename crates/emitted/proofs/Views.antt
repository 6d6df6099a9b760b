-- The three rings of a state as lists, before and after a token is gathered, bumped or flushed. Assumes nothing.
use Prim.Native.Nat.{ℕ, zero, suc, ◌+◌, ◌-◌, ◌%◌, ◌≤◌, ◌<◌}
use mathlib.Core.Path.{◌≡◌, refl, sym, ap, ap₂, ◌∙◌}
use mathlib.Core.List.{List, [], ◌∷◌, ◌++◌}
use native.Mathlib.Omega.{arith}
use lib.Dec.{eqb}
use lib.ListN.{get_or, length, length-set}
use borrow.Author.Tests.{eq-eqb, le-ltb, lt-ltb, ne_eqb}
use Rattle.emitted.proofs.Slots.{range, ring_256, ring_8, slots, slots_front, slots_mod, slots_push, slots_queued, slots_split}
use Rattle.laws.proofs.Cases.{split}
use Rattle.looks.specs.Buffer.{State, gather_at, gather_to, queued, white_to}
use Rattle.looks.specs.Calls.{bumped, flushed}
use Rattle.looks.specs.Front.{front_white, less_held, less_waiting, white_of}
use Rattle.ahead.specs.declared.Nums.{Nums}

abbrev pub held_of : State → List ℕ
held_of st = slots 8 st.held st.nums.held_at st.nums.held_len

abbrev pub counts_of : State → List ℕ
counts_of st = slots 8 st.counts st.nums.held_at st.nums.held_len

abbrev pub wait_of : State → List ℕ
wait_of st = slots 256 st.waiting st.nums.wait_at st.nums.wait_len

-- the first n that wait
abbrev pub front_of : ℕ → State → List ℕ
front_of n st = slots 256 st.waiting st.nums.wait_at n

pub record Sized (st : State) : Type 0 where
  pub held : length st.held ≡ 8
  pub counts : length st.counts ≡ 8
  pub waiting : length st.waiting ≡ 256

pub queued_length : (n : ℕ) (ring : List ℕ) (at i : ℕ) → length (queued n ring at i) ≡ length ring
unfolding queued
queued_length zero ring at i = refl
queued_length (suc n) ring at i = queued_length n _ (at + 1) (i + 1) ∙ length-set ring (at % 256) i

module _ (p count : ℕ) (st : State) (z : Sized st) where
  abbrev st₁ : State
  st₁ = gather_at p count st

  abbrev w₁ : ℕ
  w₁ = white_to p st.nums

  module _ (room : st.nums.wait_len + w₁ ≤ 256) where
    wait_gathered : wait_of st₁ ≡ wait_of st ++ range st.nums.next w₁
    unfolding gather_at gather_to
    wait_gathered = slots_queued w₁ st.waiting st.nums.wait_at st.nums.wait_len st.nums.next z.waiting room

    pub views_more : p < count → st.nums.held_len < 8
        → (held_of st₁ ≡ held_of st ++ (p ∷ [])) × (counts_of st₁ ≡ counts_of st ++ (w₁ ∷ [])) × (wait_of st₁ ≡ wait_of st ++ range st.nums.next w₁) × (st₁.nums.next ≡ p + 1) × Sized st₁
    unfolding gather_at gather_to
    views_more h few =
        let b = lt-ltb p count h in
        let at = st.nums.held_at in
        let n = st.nums.held_len in (
          rw b (slots_push 8 ring_8 st.held z.held at n p few),
          rw b (slots_push 8 ring_8 st.counts z.counts at n w₁ few),
          wait_gathered,
          rw b,
          record {
            held = rw b (length-set st.held ((at + n) % 8) p ∙ z.held);
            counts = rw b (length-set st.counts ((at + n) % 8) w₁ ∙ z.counts);
            waiting = queued_length w₁ st.waiting (st.nums.wait_at + st.nums.wait_len) st.nums.next ∙ z.waiting;
          },
        )

    pub views_last : count ≤ p
        → (held_of st₁ ≡ held_of st) × (counts_of st₁ ≡ counts_of st) × (wait_of st₁ ≡ wait_of st ++ range st.nums.next w₁) × (st₁.nums.next ≡ p) × Sized st₁
    unfolding gather_at gather_to
    views_last h =
        let b = le-ltb p count h in (
          rw b,
          rw b,
          wait_gathered,
          rw b,
          record {
            held = rw b z.held;
            counts = rw b z.counts;
            waiting = queued_length w₁ st.waiting (st.nums.wait_at + st.nums.wait_len) st.nums.next ∙ z.waiting;
          },
        )

-- so many that wait are gone
pub wait_less : (st : State) (w : ℕ) → w ≤ st.nums.wait_len
    → wait_of st ≡ front_of w st ++ slots 256 st.waiting (less_waiting w st.nums).wait_at (less_waiting w st.nums).wait_len
unfolding less_waiting
wait_less st w h =
    let m = st.nums in
    let e : m.wait_len ≡ w + (m.wait_len - w) = omega arith in
    ap (slots 256 st.waiting m.wait_at) e
    ∙ slots_split 256 st.waiting m.wait_at w (m.wait_len - w)
    ∙ ap (λ (s : List ℕ). front_of w st ++ s) (sym (slots_mod 256 ring_256 st.waiting (m.wait_at + w) (m.wait_len - w)))

-- a held token that goes leaves what waits, and the next one
pub less_held_rest : (m : Nums) → ((less_held m).wait_at ≡ m.wait_at) × ((less_held m).wait_len ≡ m.wait_len) × ((less_held m).next ≡ m.next) × ((less_held m).keep ≡ m.keep)
unfolding less_held
less_held_rest m = split (eqb m.held_len 0) (λ b. rw b (refl, refl, refl, refl)) (λ b. rw b (refl, refl, refl, refl))

pub bump_rest : (st : State) → white_of st ≤ st.nums.wait_len → wait_of st ≡ front_of (white_of st) st ++ wait_of (bumped st)
bump_rest st h =
    let r = less_held_rest (less_waiting (white_of st) st.nums) in
    wait_less st (white_of st) h ∙ ap₂ (λ (a n : ℕ). front_of (white_of st) st ++ slots 256 st.waiting a n) (sym r.0) (sym r.1)

pub bump_nums : (st : State) → ((bumped st).nums.next ≡ st.nums.next) × ((bumped st).nums.wait_len ≡ st.nums.wait_len - white_of st) × ((bumped st).nums.keep ≡ st.nums.keep)
unfolding less_waiting
bump_nums st = let r = less_held_rest (less_waiting (white_of st) st.nums) in (r.2, r.1, r.3)

-- none is held: all that waits stands in front
module _ (st : State) (none : st.nums.held_len ≡ 0) where
  pub white_all : white_of st ≡ st.nums.wait_len
  unfolding front_white
  white_all = rw (eq-eqb st.nums.held_len 0 none)

  pub views_none : (ring : List ℕ) → slots 8 ring st.nums.held_at st.nums.held_len ≡ []
  unfolding slots
  views_none ring = ap (slots 8 ring st.nums.held_at) none

  pub bump_none : (bumped st).nums.held_len ≡ 0
  unfolding less_held less_waiting
  bump_none = rw (eq-eqb st.nums.held_len 0 none) none

module _ (st : State) (some : st.nums.held_len ≡ 0 → ⊥) where
  first : (ring : List ℕ) → slots 8 ring st.nums.held_at st.nums.held_len
      ≡ get_or ring (st.nums.held_at % 8) 0 ∷ slots 8 ring (st.nums.held_at + 1) (st.nums.held_len - 1)
  unfolding slots
  first ring =
      let e : st.nums.held_len ≡ suc (st.nums.held_len - 1) = omega (arith, some) in
      ap (slots 8 ring st.nums.held_at) e

  pub white_first : white_of st ≡ get_or st.counts (st.nums.held_at % 8) 0
  unfolding front_white
  white_first =
      let e : (st.nums.held_at + 0) % 8 ≡ st.nums.held_at % 8 = omega arith in
      rw (ne_eqb st.nums.held_len 0 some) (ap (λ (k : ℕ). get_or st.counts k 0) e)

  pub views_bump : (held_of st ≡ get_or st.held (st.nums.held_at % 8) 0 ∷ held_of (bumped st)) × (counts_of st ≡ white_of st ∷ counts_of (bumped st))
  unfolding less_held less_waiting
  views_bump =
      let b = ne_eqb st.nums.held_len 0 some in
      let at = st.nums.held_at in
      let n = st.nums.held_len in (
        first st.held ∙ sym (rw b (ap (λ (s : List ℕ). get_or st.held (at % 8) 0 ∷ s) (slots_mod 8 ring_8 st.held (at + 1) (n - 1)))),
        first st.counts ∙ ap₂ (λ (c : ℕ) (s : List ℕ). c ∷ s) (sym white_first) (sym (rw b (slots_mod 8 ring_8 st.counts (at + 1) (n - 1)))),
      )

  bump_tail : slots 8 st.counts (st.nums.held_at + 1) (st.nums.held_len - 1) ≡ counts_of (bumped st)
  unfolding less_held less_waiting
  bump_tail = sym (rw (ne_eqb st.nums.held_len 0 some) (slots_mod 8 ring_8 st.counts (st.nums.held_at + 1) (st.nums.held_len - 1)))

  pub views_flush : Sized st → st.nums.held_len ≤ 8 → counts_of (flushed st) ≡ 0 ∷ counts_of (bumped st)
  unfolding less_waiting
  views_flush z few =
      let at = st.nums.held_at in
      let n = st.nums.held_len in
      let e : n ≡ suc (n - 1) = omega (arith, some) in
      ap (slots 8 _ at) e ∙ slots_front 8 ring_8 st.counts z.counts at (n - 1) 0 (omega arith) ∙ ap (λ (s : List ℕ). 0 ∷ s) bump_tail
