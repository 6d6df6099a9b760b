-- Steps of filling: the numbers after one more token, the queue, and what stays small. Assumes nothing.
use Prim.Native.Nat.{ℕ, zero, suc, ◌+◌, ◌-◌, ◌*◌, ◌%◌, ◌≤◌, ◌<◌}
use mathlib.Core.Path.{◌≡◌, refl, sym, ap, ap₂, ◌∙◌}
use mathlib.Core.List.{List}
use mathlib.Core.Bool.{true, false}
use native.Mathlib.Omega.{arith}
use lib.Dec.{leb, ltb}
use lib.ListN.{get_or, length, set}
use borrow.Author.Tests.{le-leb, le-ltb, leb-true, lt-leb, lt-ltb}
use Rattle.laws.proofs.Cases.{both_inv, both_true, split, split_le}
use Rattle.looks.proofs.Numbers.{count_bound, dark_bound}
use Rattle.looks.proofs.Six.{six_last, six_more}
use Rattle.looks.specs.Buffer.{Gatherable, Roomy, State, fits_for, gather, gather_at, gather_nums, gather_to, gathers, keeps, nums_of, queued, state_of, white_to}
use Rattle.looks.specs.Numbered.{dark, token_count}
use Rattle.ahead.specs.declared.Nums.{Nums}

module _ (p count : ℕ) (m : Nums) where
  pub gather_more : p < count → (w : ℕ) → w ≡ white_to p m → record { next = p + 1; held_at = m.held_at; held_len = m.held_len + 1; wait_at = m.wait_at; wait_len = m.wait_len + w; keep = m.keep } ≡ gather_to p count m
  unfolding gather_to
  gather_more h w e = rw (e, lt-ltb p count h)

  pub gather_last : count ≤ p → (w : ℕ) → w ≡ white_to p m → record { next = p; held_at = m.held_at; held_len = m.held_len; wait_at = m.wait_at; wait_len = m.wait_len + w; keep = m.keep } ≡ gather_to p count m
  unfolding gather_to
  gather_last h w e = rw (e, le-ltb p count h)

  pub white_bound : white_to p m ≤ p - m.next
  white_bound = split (keeps m) (λ k. rw k (omega arith)) (λ k. rw k (omega arith))

  pub gather_held : ((gather_to p count m).held_len ≤ m.held_len + 1) × (p ≤ count → (gather_to p count m).next ≤ count)
  unfolding gather_to
  gather_held =
      split_le count p
      (λ h. let e = le-ltb p count h in rw e (omega arith, λ f. omega arith))
      (λ h. let e = lt-ltb p count h in rw e (omega arith, λ f. omega arith))

  pub gather_waits : (gather_to p count m).wait_len ≡ m.wait_len + white_to p m
  unfolding gather_to
  gather_waits = refl

  pub gather_roomy : Roomy m → m.held_len < 8 → (gather_to p count m).wait_len ≤ 1099511627776 → Roomy (gather_to p count m)
  unfolding gather_to
  gather_roomy r h w = let k = gather_held.0 in record { held_in = r.held_in; wait_in = r.wait_in; held_few = omega arith; wait_few = w }

pub queued_more : (ring : List ℕ) (at i count j : ℕ) → j < count → queued (count - j) ring (at + j) (i + j) ≡ queued (count - (j + 1)) (set ring ((at + j) % 256) (i + j)) (at + (j + 1)) (i + (j + 1))
unfolding queued
queued_more ring at i count j h =
    let e : count - j ≡ suc (count - (j + 1)) = omega arith in
    let f : at + j + 1 ≡ at + (j + 1) = omega arith in
    let g : i + j + 1 ≡ i + (j + 1) = omega arith in
    rw e (ap₂ (queued (count - (j + 1)) (set ring ((at + j) % 256) (i + j))) f g)

pub queued_none : (ring : List ℕ) (at i count j : ℕ) → count ≤ j → queued (count - j) ring (at + j) (i + j) ≡ ring
unfolding queued
queued_none ring at i count j h = let e : count - j ≡ 0 = omega arith in rw e

-- what stays small while `left` more tokens are gathered
pub record Filling (l : List ℕ) (left : ℕ) (m : Nums) : Type 0 where
  pub reach : m.next ≤ token_count l
  pub roomy : Roomy m
  pub held : m.held_len + left ≤ 8
  pub wait : m.wait_len + left * 4294967296 ≤ 34359738624

module _ (l : List ℕ) (left : ℕ) (m : Nums) (f : Filling l left m) where
  pub filling_to : (m.next ≤ dark l m.next) × (dark l m.next ≤ token_count l)
  filling_to = dark_bound l m.next f.reach

  pub filling_more : 0 < left → Filling l (left - 1) (gather_nums l m)
  filling_more h =
      let p = dark l m.next in
      let t = filling_to in
      let b = count_bound l in
      let w = white_bound p (token_count l) m in
      let e = gather_waits p (token_count l) m in
      let g = gather_held p (token_count l) m in
      let few = f.held in
      let long = f.wait in
      record {
        reach = g.1 t.1;
        roomy = gather_roomy p (token_count l) m f.roomy (omega arith) (omega arith);
        held = omega (arith, g.0);
        wait = omega arith;
      }

-- where white space is dropped none comes to wait
pub fits_dropped : (l : List ℕ) (n : ℕ) (m : Nums) → m.keep ≡ 0 → m.wait_len ≤ 256 → fits_for l n m ≡ true
unfolding fits_for gather_to
fits_dropped l zero m e w = refl
fits_dropped l (suc n) m e w =
    let k : ltb 0 m.keep ≡ false = le-ltb 0 m.keep (omega arith) in
    let same : (gather_nums l m).wait_len ≡ m.wait_len = rw k (omega arith) in
    rw (le-leb (gather_nums l m).wait_len 256 (omega arith)) (fits_dropped l n (gather_nums l m) e (omega arith))

module _ (l : List ℕ) (left : ℕ) (h : 0 < left) where
  left_more : left ≡ suc (left - 1)
  left_more = omega arith

  pub fits_full : (m : Nums) → 256 < (gather_nums l m).wait_len → fits_for l left m ≡ false
  unfolding fits_for
  fits_full m w = ap (λ (n : ℕ). fits_for l n m) left_more ∙ rw (lt-leb (gather_nums l m).wait_len 256 w)

  pub fits_more : (m : Nums) → (gather_nums l m).wait_len ≤ 256 → fits_for l left m ≡ fits_for l (left - 1) (gather_nums l m)
  unfolding fits_for
  fits_more m w = ap (λ (n : ℕ). fits_for l n m) left_more ∙ rw (le-leb (gather_nums l m).wait_len 256 w)

  pub gathers_more : (st : State) → gathers l left st ≡ gathers l (left - 1) (gather l st)
  unfolding gathers
  gathers_more st = ap (λ (n : ℕ). gathers l n st) left_more

pub fits_end : (l : List ℕ) (left : ℕ) (m : Nums) → left ≤ 0 → fits_for l left m ≡ true
unfolding fits_for
fits_end l left m h = ap (λ (n : ℕ). fits_for l n m) (let e : left ≡ 0 = omega arith in e)

pub gathers_end : (l : List ℕ) (left : ℕ) (st : State) → left ≤ 0 → gathers l left st ≡ st
unfolding gathers
gathers_end l left st h = ap (λ (n : ℕ). gathers l n st) (let e : left ≡ 0 = omega arith in e)

-- where 256 suffice they suffice for the first, and for the rest
module _ (l : List ℕ) (left : ℕ) (h : 0 < left) (m : Nums) where
  pub fits_inv : fits_for l left m ≡ true → ((gather_nums l m).wait_len ≤ 256) × (fits_for l (left - 1) (gather_nums l m) ≡ true)
  unfolding fits_for
  fits_inv e =
      let f = sym (ap (λ (n : ℕ). fits_for l n m) (left_more l left h)) ∙ e in
      let b = both_inv (leb (gather_nums l m).wait_len 256) _ f in
      (leb-true _ _ b.0, b.1)

  pub gatherable_to : Gatherable l left m → (m.next ≤ dark l m.next) × (m.wait_len + white_to (dark l m.next) m ≤ 256)
  gatherable_to g =
      let e = gather_waits (dark l m.next) (token_count l) m in
      let f = fits_inv g.fit in
      ((dark_bound l m.next g.reach).0, omega (arith, f.0))

  pub gatherable_more : Gatherable l left m → Gatherable l (left - 1) (gather_nums l m)
  gatherable_more g =
      let p = dark l m.next in
      let t = dark_bound l m.next g.reach in
      let k = gather_held p (token_count l) m in
      let f = fits_inv g.fit in
      let few = g.held in
      record {
        reach = k.1 t.1;
        roomy = gather_roomy p (token_count l) m g.roomy (omega arith) (omega (arith, f.0));
        held = omega (arith, k.0);
        wait = f.0;
        fit = f.1;
      }

pub fits_one : (l : List ℕ) (m : Nums) → fits_for l 1 m ≡ leb (m.wait_len + white_to (dark l m.next) m) 256
unfolding fits_for
fits_one l m = both_true (leb (gather_nums l m).wait_len 256) ∙ ap (λ (k : ℕ). leb k 256) (gather_waits (dark l m.next) (token_count l) m)

-- what the code writes for one more token is the definition's
module _ (p count : ℕ) (w held counts waiting : List ℕ) (six : length w ≡ 6) (x at : ℕ) (ring : List ℕ) (e : x ≡ white_to p (nums_of w)) (a : at ≡ get_or w 4 0 + get_or w 5 0) (r : ring ≡ queued x waiting at (get_or w 0 0)) where
  pub lies_last : count ≤ p → state_of (nums_of (set (set w 5 (get_or w 5 0 + x)) 0 p)) held counts ring ≡ gather_at p count (state_of (nums_of w) held counts waiting)
  unfolding gather_at
  lies_last h = rw (six_last w six (get_or w 5 0 + x) p 0 ∙ gather_last p count (nums_of w) h x e, r, a, e, le-ltb p count h)

  pub lies_more : p < count → (slot : ℕ) → slot ≡ (get_or w 2 0 + get_or w 3 0) % 8
      → state_of (nums_of (set (set (set w 5 (get_or w 5 0 + x)) 0 (p + 1)) 3 (get_or w 3 0 + 1))) (set held slot p) (set counts slot x) ring ≡ gather_at p count (state_of (nums_of w) held counts waiting)
  unfolding gather_at
  lies_more h slot s = rw (six_more w six (get_or w 5 0 + x) (p + 1) (get_or w 3 0 + 1) ∙ gather_more p count (nums_of w) h x e, s, r, a, e, lt-ltb p count h)
