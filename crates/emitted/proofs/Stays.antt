-- A sound state stays sound when a token is gathered, bumped or flushed. Assumes nothing.
use Prim.Native.Nat.{ℕ, zero, suc, ◌+◌, ◌-◌, ◌%◌, ◌≤◌, ◌<◌}
use mathlib.Core.Path.{◌≡◌, sym, ap, ap₂, ◌∙◌}
use mathlib.Core.List.{List, [], ◌∷◌, ◌++◌}
use mathlib.Core.Bool.{true, false}
use native.Mathlib.Omega.{arith}
use lib.Dec.{ltb, eqb}
use lib.ListN.{get_or, length-set}
use borrow.Author.Tests.{eq-eqb, le-leb, le-ltb, lt-ltb}
use Rattle.emitted.proofs.Rises.{ascends_rises, cons_rises, rises, rises_append, rises_behind, rises_none, rises_range, rises_top, sum_total, total, total_append, total_one}
use Rattle.emitted.proofs.Slots.{range, slots}
use Rattle.emitted.proofs.Views.{Sized, bump_none, bump_nums, bump_rest, counts_of, front_of, held_of, less_held_rest, views_bump, views_flush, views_last, views_more, views_none, wait_of}
use Rattle.laws.proofs.Cases.{both_inv, split, split_eq, split_le}
use Rattle.laws.specs.Bools.{both}
use Rattle.looks.proofs.Answers.{sound_bounded}
use Rattle.looks.proofs.Gathers.{gather_waits, white_bound}
use Rattle.looks.proofs.Numbers.{dark_bound}
use Rattle.looks.proofs.Sounds.{Bounded}
use Rattle.looks.proofs.Turns.{sound_sum}
use Rattle.looks.specs.Buffer.{State, gather, gather_at, gather_nums, gather_to, white_to}
use Rattle.looks.specs.Calls.{bumped, flushed}
use Rattle.looks.specs.Front.{front_white, less_held, less_waiting, white_of}
use Rattle.looks.specs.Numbered.{dark, dark_from, is_white, kind_at, token_count}
use Rattle.looks.specs.Sound.{ascends_by, bounded_by, count_sum, ordered_by, sound_by, whole_by}
use Rattle.ahead.specs.declared.Nums.{Nums}

pub record Sound (l : List ℕ) (st : State) : Type 0 where
  pub sized : Sized st
  pub bounded : Bounded l st.nums
  pub held : rises false l (held_of st) 0 st.nums.next ≡ true
  pub waits : rises true l (wait_of st) 0 st.nums.next ≡ true
  pub sum : total (counts_of st) ≤ st.nums.wait_len

module _ (l : List ℕ) (st : State) where
  abbrev m : Nums
  m = st.nums

  pub sound_of : Sized st → sound_by 0 l st ≡ true → (whole_by l ≡ true) × Sound l st
  unfolding sound_by ordered_by
  sound_of z s =
      let a = (both_inv (both (bounded_by l m) _) (both (whole_by l) (ordered_by l st)) s).1 in
      let b = both_inv (whole_by l) (ordered_by l st) a in
      let d = both_inv (ascends_by false l 8 st.held m.held_len m.held_at 0 m.next) _ b.1 in
      let sum = sound_sum 0 l st s in (
        b.0,
        record {
          sized = z;
          bounded = sound_bounded 0 l st s;
          held = sym (ascends_rises false l 8 st.held m.held_len m.held_at 0 m.next) ∙ d.0;
          waits = sym (ascends_rises true l 256 st.waiting m.wait_len m.wait_at 0 m.next) ∙ d.1;
          sum = omega (arith, sum_total st.counts m.held_len m.held_at);
        },
      )

  bounded_yes : Bounded l m → bounded_by l m ≡ true
  unfolding bounded_by
  bounded_yes b =
      rw (le-leb _ _ b.held_few, le-leb _ _ b.wait_few, lt-ltb _ _ b.held_in, lt-ltb _ _ b.wait_in, le-leb _ _ b.reach)

  pub sound_is : whole_by l ≡ true → Sound l st → (t : ℕ) → sound_by t l st ≡ true
  unfolding sound_by ordered_by
  sound_is w s t =
      let sum = s.sum in
      rw (
        bounded_yes s.bounded,
        le-leb (count_sum st.counts m.held_len m.held_at) m.wait_len (omega (arith, sum_total st.counts m.held_len m.held_at)),
        w,
        ascends_rises false l 8 st.held m.held_len m.held_at 0 m.next ∙ s.held,
        ascends_rises true l 256 st.waiting m.wait_len m.wait_at 0 m.next ∙ s.waits,
      ) (split (ltb 0 t) (λ b. rw b) (λ b. rw b))

-- white space up to the next token that is none
module _ (l : List ℕ) where
  dark_run : (n i k : ℕ) → i ≤ k → k < dark_from n l i → is_white (kind_at l k) ≡ true
  unfolding dark_from
  dark_run zero i k h b = absurd (omega arith)
  dark_run (suc n) i k h b =
      split (is_white (kind_at l i))
      (λ w. split_eq i k (λ e. ap (λ (j : ℕ). is_white (kind_at l j)) (sym e) ∙ w) (λ e. dark_run n (i + 1) k (omega (arith, e)) (rw w at b)))
      (λ w. absurd (let c : k < i = rw w at b in omega arith))

  dark_stop : (n i : ℕ) → dark_from n l i < i + n → is_white (kind_at l (dark_from n l i)) ≡ false
  unfolding dark_from
  dark_stop zero i h = absurd (omega arith)
  dark_stop (suc n) i h =
      split (is_white (kind_at l i))
      (λ w. let c : dark_from n l (i + 1) < i + suc n = rw w at h in rw w (dark_stop n (i + 1) (omega arith)))
      (λ w. rw w w)

  module _ (i : ℕ) where
    pub white_to_law : (k : ℕ) → i ≤ k → k < dark l i → true ≡ is_white (kind_at l k)
    white_to_law k h b = sym (dark_run (token_count l - i) i k h b)

    pub dark_at : i ≤ token_count l → dark l i < token_count l → false ≡ is_white (kind_at l (dark l i))
    dark_at h b = sym (dark_stop (token_count l - i) i (omega arith))

module _ (l : List ℕ) (st : State) (s : Sound l st) where
  abbrev m₁ : Nums
  m₁ = st.nums

  abbrev p₁ : ℕ
  p₁ = dark l m₁.next

  gather_next : (m₁.next ≤ p₁) × (p₁ ≤ token_count l)
  gather_next = dark_bound l m₁.next s.bounded.reach

  pub gather_room : (gather_nums l m₁).wait_len ≤ 256 → m₁.wait_len + white_to p₁ m₁ ≤ 256
  gather_room room = omega (arith, gather_waits p₁ (token_count l) m₁)

  gathered_waits : (top : ℕ) → p₁ ≤ top → rises true l (wait_of st ++ range m₁.next (white_to p₁ m₁)) 0 top ≡ true
  gathered_waits top h =
      let t = gather_next in
      let w = white_bound p₁ (token_count l) m₁ in
      rises_append true l (wait_of st) (range m₁.next (white_to p₁ m₁)) 0 m₁.next top (omega arith) (omega arith) s.waits
      (rises_range true l (white_to p₁ m₁) m₁.next top (omega arith) (λ k a b. white_to_law l m₁.next k a (omega arith)))

  gather_bounds : m₁.held_len < 8 → (gather_nums l m₁).wait_len ≤ 256 → Bounded l (gather_nums l m₁)
  unfolding gather_to
  gather_bounds few room =
      let t = gather_next in
      let b = s.bounded in
      let old = b.held_few in
      record {
        held_few = split_le (token_count l) p₁ (λ h. rw (le-ltb p₁ (token_count l) h) (omega arith)) (λ h. rw (lt-ltb p₁ (token_count l) h) (omega arith));
        wait_few = room;
        held_in = b.held_in;
        wait_in = b.wait_in;
        reach = split_le (token_count l) p₁ (λ h. rw (le-ltb p₁ (token_count l) h) (omega arith)) (λ h. rw (lt-ltb p₁ (token_count l) h) (omega arith));
      }

  pub sound_gather : m₁.held_len < 8 → (gather_nums l m₁).wait_len ≤ 256 → Sound l (gather l st)
  unfolding gather_at
  sound_gather few room =
      let t = gather_next in
      let space = gather_room room in
      let sum = s.sum in
      let waits = gather_waits p₁ (token_count l) m₁ in
      split_le (token_count l) p₁
      (λ h.
      let v = views_last p₁ (token_count l) st s.sized space h in
      record {
        sized = v.4;
        bounded = gather_bounds few room;
        held = ap₂ (λ (xs : List ℕ) (top : ℕ). rises false l xs 0 top) v.0 v.3 ∙ rises_top false l (held_of st) 0 m₁.next p₁ t.0 s.held;
        waits = ap₂ (λ (xs : List ℕ) (top : ℕ). rises true l xs 0 top) v.2 v.3 ∙ gathered_waits p₁ (omega arith);
        sum = omega (arith, ap total v.1);
      })
      (λ h.
      let v = views_more p₁ (token_count l) st s.sized space h few in
      record {
        sized = v.4;
        bounded = gather_bounds few room;
        held =
            ap₂ (λ (xs : List ℕ) (top : ℕ). rises false l xs 0 top) v.0 v.3
            ∙ rises_append false l (held_of st) (p₁ ∷ []) 0 m₁.next (p₁ + 1) (omega arith) (omega arith) s.held (one (p₁ + 1) (omega arith) h);
        waits = ap₂ (λ (xs : List ℕ) (top : ℕ). rises true l xs 0 top) v.2 v.3 ∙ gathered_waits (p₁ + 1) (omega arith);
        sum = omega (arith, ap total v.1, total_append (counts_of st) (white_to p₁ m₁ ∷ []), total_one (white_to p₁ m₁));
      })
    where
      one : (top : ℕ) → p₁ < top → p₁ < token_count l → rises false l (p₁ ∷ []) m₁.next top ≡ true
      one top b h = cons_rises false l p₁ [] m₁.next top (record { from = gather_next.0; to = b; kind = dark_at l m₁.next s.bounded.reach h }) (rises_none false l (p₁ + 1) top)

-- what waits in front is no more than waits
module _ (l : List ℕ) (st : State) (s : Sound l st) where
  pub white_fits : white_of st ≤ st.nums.wait_len
  unfolding front_white total
  white_fits =
      split_eq st.nums.held_len 0
      (λ none. rw (eq-eqb st.nums.held_len 0 none) (omega arith))
      (λ some. let sum = s.sum in omega (arith, ap total (views_bump st some).1))

  rest_rises : rises true l (wait_of (bumped st)) 0 st.nums.next ≡ true
  rest_rises =
      rises_behind true l (front_of (white_of st) st) (wait_of (bumped st)) 0 st.nums.next
      (sym (ap (λ (xs : List ℕ). rises true l xs 0 st.nums.next) (bump_rest st white_fits)) ∙ s.waits)

  less_bounds : (w : ℕ) → Bounded l (less_waiting w st.nums)
  unfolding less_waiting
  less_bounds w =
      let b = s.bounded in
      let few = b.wait_few in
      record { held_few = b.held_few; wait_few = omega arith; held_in = b.held_in; wait_in = omega arith; reach = b.reach }

  held_bounds : (n : Nums) → Bounded l n → Bounded l (less_held n)
  unfolding less_held
  held_bounds n b =
      let few = b.held_few in
      split (eqb n.held_len 0)
      (λ z. rw z b)
      (λ z. rw z (record { held_few = omega arith; wait_few = b.wait_few; held_in = omega arith; wait_in = b.wait_in; reach = b.reach }))

  bump_held : rises false l (held_of (bumped st)) 0 (bumped st).nums.next ≡ true
  bump_held =
      split_eq st.nums.held_len 0
      (λ none. ap (λ (xs : List ℕ). rises false l xs 0 (bumped st).nums.next) (views_none (bumped st) (bump_none st none) st.held) ∙ rises_none false l 0 (bumped st).nums.next)
      (λ some.
      rises_behind false l (get_or st.held (st.nums.held_at % 8) 0 ∷ []) (held_of (bumped st)) 0 (bumped st).nums.next
      (sym (ap₂ (λ (xs : List ℕ) (top : ℕ). rises false l xs 0 top) (views_bump st some).0 (sym (bump_nums st).0)) ∙ s.held))

  bump_sum : total (counts_of (bumped st)) ≤ (bumped st).nums.wait_len
  unfolding total
  bump_sum =
      split_eq st.nums.held_len 0
      (λ none. omega (arith, ap total (views_none (bumped st) (bump_none st none) st.counts)))
      (λ some. let sum = s.sum in omega (arith, (bump_nums st).1, ap total (views_bump st some).1))

  pub sound_bumped : Sound l (bumped st)
  sound_bumped =
      let z = s.sized in
      record {
        sized = record { held = z.held; counts = z.counts; waiting = z.waiting };
        bounded = held_bounds (less_waiting (white_of st) st.nums) (less_bounds (white_of st));
        held = bump_held;
        waits = ap (λ (top : ℕ). rises true l (wait_of (bumped st)) 0 top) (bump_nums st).0 ∙ rest_rises;
        sum = bump_sum;
      }

  flush_rest : wait_of (flushed st) ≡ wait_of (bumped st)
  flush_rest =
      let r = less_held_rest (less_waiting (white_of st) st.nums) in
      ap₂ (slots 256 st.waiting) (sym r.0) (sym r.1)

  pub sound_flushed : Sound l (flushed st)
  unfolding less_waiting total
  sound_flushed =
      let z = s.sized in
      record {
        sized = record { held = z.held; counts = length-set st.counts (st.nums.held_at % 8) 0 ∙ z.counts; waiting = z.waiting };
        bounded = less_bounds (white_of st);
        held = s.held;
        waits = ap (λ (xs : List ℕ). rises true l xs 0 st.nums.next) flush_rest ∙ rest_rises;
        sum =
            split_eq st.nums.held_len 0
            (λ none. omega (arith, ap total (views_none (flushed st) none (flushed st).counts)))
            (λ some. let b = bump_sum in omega (arith, (bump_nums st).1, ap total (views_flush st some z s.bounded.held_few)));
      }
