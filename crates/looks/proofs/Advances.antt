-- Emitting held tokens one after the other, and the tokens of an array. Assumes nothing.
use Prim.Native.Nat.{ℕ, zero, suc, ◌+◌, ◌-◌, ◌*◌, ◌%◌, ◌≤◌, ◌<◌}
use mathlib.Core.Path.{◌≡◌, refl, sym, ap, ap₂, ◌∙◌}
use mathlib.Core.List.{List, ◌++◌}
use mathlib.Core.Bool.{true}
use native.Mathlib.Omega.{arith}
use lib.Seq.{length-sets, sets}
use lib.ListN.{get_or, length, length-append}
use borrow.Author.Tests.{eq-eqb, lt-leb, ne_eqb}
use Rattle.std.specs.Prelude.{Ok}
use Rattle.laws.proofs.Cases.{never, split, split_eq, split_le}
use Rattle.laws.proofs.Sets.{sets_append}
use Rattle.looks.proofs.Answers.{refusal_none}
use Rattle.looks.proofs.Turns.{front_length, front_state, front_words_law, nth_length}
use Rattle.looks.specs.Buffer.{State, fits_for, ring_at}
use Rattle.looks.specs.Calls.{advance_refusal, advance_words, advanced, array_refusal, array_words, bumped, with_nums}
use Rattle.looks.specs.Front.{front_white, front_words, less_held, less_waiting, nth_of, nth_words, wait_words, white_of}
use Rattle.looks.specs.Sound.{count_sum, sound_by}
use Rattle.ahead.specs.declared.Nums.{Nums}

pub sum_mod : (ring : List ℕ) (n at : ℕ) → count_sum ring n (at % 8) ≡ count_sum ring n at
unfolding count_sum
sum_mod ring zero at = refl
sum_mod ring (suc n) at =
    let a : at % 8 % 8 ≡ at % 8 = omega arith in
    let b : (at % 8 + 1) % 8 ≡ (at + 1) % 8 = omega arith in
    ap₂ (λ (x y : ℕ). get_or ring x 0 + y) a (sym (sum_mod ring n (at % 8 + 1)) ∙ ap (count_sum ring n) b ∙ sum_mod ring n (at + 1))

pub sum_mono : (ring : List ℕ) (n k at : ℕ) → n ≤ k → count_sum ring n at ≤ count_sum ring k at
unfolding count_sum
sum_mono ring zero k at h = omega arith
sum_mono ring (suc n) zero at h = absurd (omega arith)
sum_mono ring (suc n) (suc k) at h = let e = sum_mono ring n k (at + 1) (omega arith) in omega arith

module _ (t : ℕ) (l : List ℕ) (n : ℕ) (st : State) where
  pub advance_none : advance_refusal t l n st ≡ Ok tt → (sound_by t l st ≡ true) × (n ≤ st.nums.held_len)
  unfolding advance_refusal
  advance_none e =
      split (sound_by t l st)
      (λ s. split_le n st.nums.held_len
      (λ h. (s, h))
      (λ h. let w = rw (s, lt-leb n st.nums.held_len h) at e in never (cc)))
      (λ s. let w = rw s at e in never (cc))

  pub array_none : array_refusal t l n st ≡ Ok tt → (sound_by t l st ≡ true) × (n ≤ 8) × (fits_for l (n - st.nums.held_len) st.nums ≡ true)
  unfolding array_refusal fits_for
  array_none e =
      split_eq n 0
      (λ z. split (sound_by t l st)
      (λ s. let k : n - st.nums.held_len ≡ 0 = omega arith in (s, omega arith, ap (λ (i : ℕ). fits_for l i st.nums) k))
      (λ s. let w = rw (eq-eqb n 0 z, s) at e in never (cc)))
      (λ z. let r = refusal_none t l (n - 1) st (rw (ne_eqb n 0 z) at e) in
      let k : n - st.nums.held_len ≡ n - 1 + 1 - st.nums.held_len = omega arith in
      (r.0, omega (arith, r.1), ap (λ (i : ℕ). fits_for l i st.nums) k ∙ r.2))

-- the numbers after a held token was emitted
module _ (w : ℕ) (m : Nums) (h : m.held_len ≡ 0 → ⊥) where
  abbrev pub less_front : Nums
  less_front = less_held (less_waiting w m)

  pub less_facts : (less_front.held_len ≡ m.held_len - 1) × (less_front.held_at ≡ (m.held_at + 1) % 8) × (less_front.wait_len ≡ m.wait_len - w)
  unfolding less_held less_waiting
  less_facts = let e = ne_eqb m.held_len 0 h in (rw e, rw e, rw e)

-- what is left of the tokens, after what is stored, gives the whole
pub record Advancing (l : List ℕ) (n : ℕ) (st : State) (out₀ out : List ℕ) (m : Nums) (at left : ℕ) : Type 0 where
  pub state : advanced left (with_nums m st) ≡ advanced n st
  pub stores : sets out at (advance_words l left (with_nums m st)) ≡ sets out₀ 0 (advance_words l n st)
  pub same : length out ≡ length out₀
  pub held : left ≤ m.held_len
  pub sum : count_sum st.counts left m.held_at ≤ m.wait_len
  pub room : at + count_sum st.counts left m.held_at * 3 + left * 3 ≤ length out

module _ (l : List ℕ) (n : ℕ) (st : State) (out₀ : List ℕ) where
  module _ (out : List ℕ) (m : Nums) (at left : ℕ) (a : Advancing l n st out₀ out m at left) where
    pub advancing_end : left ≤ 0 → (with_nums m st ≡ advanced n st) × (out ≡ sets out₀ 0 (advance_words l n st))
    unfolding advanced advance_words
    advancing_end h =
        let e : left ≡ 0 = omega arith in (
          sym (ap (λ (k : ℕ). advanced k (with_nums m st)) e) ∙ a.state,
          sym (ap (λ (k : ℕ). sets out at (advance_words l k (with_nums m st))) e) ∙ a.stores,
        )

    module _ (more : 0 < left) where
      left_one : left ≡ suc (left - 1)
      left_one = omega arith

      pub held_some : m.held_len ≡ 0 → ⊥
      held_some e = let h = a.held in omega arith

      sum_one : count_sum st.counts left m.held_at ≡ get_or st.counts (m.held_at % 8) 0 + count_sum st.counts (left - 1) (m.held_at + 1)
      unfolding count_sum
      sum_one = ap (λ (k : ℕ). count_sum st.counts k m.held_at) left_one

      module _ (white : ℕ) (ew : white ≡ ring_at 8 st.counts m.held_at 0) where
        white_slot : white ≡ get_or st.counts (m.held_at % 8) 0
        white_slot =
            let e : (m.held_at + 0) % 8 ≡ m.held_at % 8 = omega arith in
            ew ∙ ap (λ (k : ℕ). get_or st.counts k 0) e

        pub advancing_room : (white ≤ m.wait_len) × (at + white * 3 + 3 ≤ length out)
        advancing_room = let s = a.sum in let r = a.room in let o = sum_one in let w = white_slot in (omega arith, omega arith)

        white_front : white ≡ white_of (with_nums m st)
        unfolding front_white
        white_front = ew ∙ sym (rw (ne_eqb m.held_len 0 held_some))

        pub advancing_more : (ws out₁ : List ℕ) (m₁ : Nums) → ws ≡ nth_of l 0 (with_nums m st) → m₁ ≡ less_held (less_waiting white m)
            → out₁ ≡ sets out at (wait_words white l st.waiting m.wait_at ++ ws) → Advancing l n st out₀ out₁ m₁ (at + (white * 3 + 3)) (left - 1)
        unfolding advanced advance_words
        advancing_more ws out₁ m₁ es em eo =
            let f = with_nums m st in
            let next : with_nums m₁ st ≡ bumped f = front_state l f f refl white white_front m₁ em in
            let words = front_words_law l f f refl white white_front ws es in
            let long = front_length l f in
            let wf = white_front in
            let facts = less_facts white m held_some in
            let few = ap (λ (k : Nums). k.held_len) em in
            let slot = ap (λ (k : Nums). k.held_at) em ∙ facts.1 in
            let rest = ap (count_sum st.counts (left - 1)) slot ∙ sum_mod st.counts (left - 1) (m.held_at + 1) in
            let waits = ap (λ (k : Nums). k.wait_len) em in
            let stored : out₁ ≡ sets out at (front_words l f) = eo ∙ ap (sets out at) words in
            let size = ap length stored ∙ length-sets out at (front_words l f) in
            let s = a.sum in
            let r = a.room in
            let h = a.held in
            let o = sum_one in
            let w = white_slot in
            record {
              state = ap (advanced (left - 1)) next ∙ sym (ap (λ (k : ℕ). advanced k f) left_one) ∙ a.state;
              stores =
                  ap₂ (λ (x : List ℕ) (g : State). sets x (at + (white * 3 + 3)) (advance_words l (left - 1) g)) stored next
                  ∙ sets_append out (front_words l f) (advance_words l (left - 1) (bumped f)) at (at + (white * 3 + 3)) (omega arith)
                  ∙ sym (ap (λ (k : ℕ). sets out at (advance_words l k f)) left_one) ∙ a.stores;
              same = size ∙ a.same;
              held = omega (arith, few, facts.0);
              sum = omega (arith, rest, waits, facts.2);
              room = omega (arith, rest);
            }

-- the tokens of an array so far
pub record Filing (l : List ℕ) (n : ℕ) (m : Nums) (held out₀ out : List ℕ) (i : ℕ) : Type 0 where
  pub same : length out ≡ length out₀
  pub stores : sets out (i * 3) (array_words l (n - i) i m held) ≡ sets out₀ 0 (array_words l n 0 m held)

pub array_length : (l : List ℕ) (n i : ℕ) (m : Nums) (held : List ℕ) → length (array_words l n i m held) ≡ n * 3
unfolding array_words
array_length l zero i m held = refl
array_length l (suc n) i m held =
    let e = length-append (nth_words l i m held) (array_words l n (i + 1) m held) in
    let a = nth_length l i m held in
    let b = array_length l n (i + 1) m held in
    omega arith

module _ (l : List ℕ) (n : ℕ) (m : Nums) (held out₀ : List ℕ) where
  module _ (out : List ℕ) (i : ℕ) (a : Filing l n m held out₀ out i) where
    pub filing_end : n ≤ i → out ≡ sets out₀ 0 (array_words l n 0 m held)
    unfolding array_words
    filing_end h =
        let e : n - i ≡ 0 = omega arith in
        sym (ap (λ (k : ℕ). sets out (i * 3) (array_words l k i m held)) e) ∙ a.stores

    pub filing_more : i < n → (out₁ ws : List ℕ) → ws ≡ nth_words l i m held → out₁ ≡ sets out (i * 3) ws → Filing l n m held out₀ out₁ (i + 1)
    unfolding array_words
    filing_more h out₁ ws es eo =
        let e : n - i ≡ suc (n - (i + 1)) = omega arith in
        let long = nth_length l i m held in
        let stored = eo ∙ ap (sets out (i * 3)) es in
        record {
          same = ap length stored ∙ length-sets out (i * 3) (nth_words l i m held) ∙ a.same;
          stores =
              ap (λ (o : List ℕ). sets o ((i + 1) * 3) (array_words l (n - (i + 1)) (i + 1) m held)) stored
              ∙ sets_append out (nth_words l i m held) (array_words l (n - (i + 1)) (i + 1) m held) (i * 3) ((i + 1) * 3) (omega arith)
              ∙ sym (ap (λ (k : ℕ). sets out (i * 3) (array_words l k i m held)) e) ∙ a.stores;
        }

pub advance_length : (l : List ℕ) (n : ℕ) (st : State) → n ≤ st.nums.held_len → length (advance_words l n st) ≡ (count_sum st.counts n st.nums.held_at + n) * 3
unfolding advance_words count_sum front_white
advance_length l zero st h = refl
advance_length l (suc n) st h =
    let m = st.nums in
    let some : m.held_len ≡ 0 → ⊥ = λ e. omega arith in
    let facts = less_facts (white_of st) m some in
    let e = length-append (front_words l st) (advance_words l n (bumped st)) in
    let a = front_length l st in
    let b = advance_length l n (bumped st) (omega (arith, facts.0)) in
    let white : white_of st ≡ get_or st.counts (m.held_at % 8) 0 = rw (ne_eqb m.held_len 0 some) (ap (λ (k : ℕ). get_or st.counts k 0) (let z : (m.held_at + 0) % 8 ≡ m.held_at % 8 = omega arith in z)) in
    let rest = ap (count_sum st.counts n) facts.1 ∙ sum_mod st.counts n (m.held_at + 1) in
    omega arith
