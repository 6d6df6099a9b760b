-- What stands in front of a filled state. Assumes nothing.
use Prim.Native.Nat.{ℕ, ◌+◌, ◌-◌, ◌%◌, ◌≤◌, ◌<◌}
use mathlib.Core.Path.{◌≡◌, sym, ap, ◌∙◌}
use mathlib.Core.List.{List}
use mathlib.Core.Bool.{true, false}
use native.Mathlib.Omega.{arith}
use lib.Dec.{ltb, eqb}
use lib.Seq.{get_or-set_same}
use lib.ListN.{get_or, length}
use borrow.Author.Tests.{eq-eqb, le-ltb, lt-ltb, ne_eqb}
use Rattle.looks.specs.Buffer.{State, fill, gather, gather_at, gather_to, gathers, white_to, words_of}
use Rattle.looks.specs.Front.{front_white, nth_of, nth_words, white_of}
use Rattle.looks.specs.Numbered.{dark, eof_words, token_at, token_count}
use Rattle.looks.specs.declared.emit.Words.{Words}

pub fill_held : (l : List ℕ) (st : State) → (st.nums.held_len ≡ 0 → ⊥) → fill l 0 st ≡ st
unfolding gathers
fill_held l st h =
    let e : 0 + 1 - st.nums.held_len ≡ 0 = omega arith in
    ap (λ (k : ℕ). gathers l k st) e

pub fill_enough : (l : List ℕ) (n : ℕ) (st : State) → n < st.nums.held_len → fill l n st ≡ st
unfolding gathers
fill_enough l n st h =
    let e : n + 1 - st.nums.held_len ≡ 0 = omega arith in
    ap (λ (k : ℕ). gathers l k st) e

pub fill_none : (l : List ℕ) (st : State) → st.nums.held_len ≡ 0 → fill l 0 st ≡ gather l st
unfolding gathers
fill_none l st h =
    let e : 0 + 1 - st.nums.held_len ≡ 1 = omega arith in
    ap (λ (k : ℕ). gathers l k st) e

module _ (l : List ℕ) (st : State) where
  pub front_held : (c : ℕ) (w : Words) (slot : ℕ) → (st.nums.held_len ≡ 0 → ⊥) → slot ≡ (st.nums.held_at + 0) % 8 → c ≡ get_or st.counts slot 0 → words_of w ≡ token_at l (get_or st.held slot 0)
      → (c ≡ white_of (fill l 0 st)) × (words_of w ≡ nth_of l 0 (fill l 0 st))
  unfolding front_white nth_words
  front_held c w slot h s e f =
      let g = sym (fill_held l st h) in
      let some : ltb 0 st.nums.held_len ≡ true = lt-ltb 0 st.nums.held_len (omega arith) in
      ((e ∙ sym (rw (ne_eqb st.nums.held_len 0 h, s))) ∙ ap white_of g, (f ∙ sym (rw (some, s))) ∙ ap (nth_of l 0) g)

  module _ (none : st.nums.held_len ≡ 0) (p : ℕ) (at : p ≡ dark l st.nums.next) where
    gather_eq : gather_at p (token_count l) st ≡ fill l 0 st
    gather_eq = ap (λ (k : ℕ). gather_at k (token_count l) st) at ∙ sym (fill_none l st none)

    pub front_more : length st.held ≡ 8 → length st.counts ≡ 8 → p < token_count l → (c : ℕ) (w : Words) → c ≡ white_to p st.nums → words_of w ≡ token_at l p
        → (c ≡ white_of (fill l 0 st)) × (words_of w ≡ nth_of l 0 (fill l 0 st))
    unfolding front_white nth_words gather_at gather_to
    front_more lh lc h c w e f =
        let m = st.nums in
        let b = lt-ltb p (token_count l) h in
        let slot : (m.held_at + m.held_len) % 8 ≡ (m.held_at + 0) % 8 = ap (λ (k : ℕ). (m.held_at + k) % 8) none in
        let in₁ : (m.held_at + 0) % 8 < length st.held = omega arith in
        let in₂ : (m.held_at + 0) % 8 < length st.counts = omega arith in
        let one : eqb (m.held_len + 1) 0 ≡ false = ne_eqb (m.held_len + 1) 0 (λ z. omega arith) in
        let two : ltb 0 (m.held_len + 1) ≡ true = lt-ltb 0 (m.held_len + 1) (omega arith) in (
          (e ∙ sym (rw (b, one, slot) (get_or-set_same st.counts ((m.held_at + 0) % 8) (white_to p m) 0 in₂))) ∙ ap white_of gather_eq,
          (f ∙ sym (rw (b, two, slot, get_or-set_same st.held ((m.held_at + 0) % 8) p 0 in₁))) ∙ ap (nth_of l 0) gather_eq,
        )

    pub front_last : token_count l ≤ p → (c : ℕ) (w : Words) → c ≡ st.nums.wait_len + white_to p st.nums → words_of w ≡ eof_words l
        → (c ≡ white_of (fill l 0 st)) × (words_of w ≡ nth_of l 0 (fill l 0 st))
    unfolding front_white nth_words gather_at gather_to
    front_last h c w e f =
        let b = le-ltb p (token_count l) h in
        let one : eqb st.nums.held_len 0 ≡ true = eq-eqb st.nums.held_len 0 none in
        let two : ltb 0 st.nums.held_len ≡ false = le-ltb 0 st.nums.held_len (omega arith) in
        ((e ∙ sym (rw (b, one))) ∙ ap white_of gather_eq, (f ∙ sym (rw (b, two))) ∙ ap (nth_of l 0) gather_eq)
