-- The bridge from bytes to scalars: what stands at a place, and where the scalars go on. Assumes nothing.
use Rattle.std.specs.Prelude.{Option, Some, None}
use Prim.Native.Nat.{ℕ, zero, suc, ◌+◌, ◌≤◌, ◌<◌}
use mathlib.Core.Path.{◌≡◌, refl, sym, ap, ◌∙◌, subst}
use mathlib.Core.List.{List, [], ◌∷◌}
use mathlib.Core.Bool.{true}
use native.Mathlib.Omega.{arith}
use lib.Dec.{leb}
use lib.Seq.{drop-cons, drop-drop, get_or-drop}
use lib.ListN.{get_or-eq_default, drop, drop_of_length-le, get_or, length, length-drop}
use borrow.Author.Tests.{le-leb}
use Rattle.laws.proofs.Cases.{never, split, split_eq, split_le}
use Rattle.text.proofs.Leads.{Whole, lead_whole, tail_inv, value_zero, wide_lead, width_1}
use Rattle.text.specs.Utf8.{Lead, after, bad, decode, first, from, head_at, lead_of, rest, scalar_at, scalar_of, second_at, second_of, seq, tail, width}
use Rattle.text.specs.Wide.{step_of, value_of, wide_of}
use Rattle.text.specs.declared.utf8.Scalar.{Scalar}

-- a scalar v stands at a place, and the scalars go on at n
pub record Step (s : List ℕ) (at v n : ℕ) : Type 0 where
  pub here : rest s at ≡ v ∷ rest s n
  pub next : n ≡ at + width v
  pub past : at < n
  pub room : n ≤ length s

-- an element that is not 0 stands within the list
there : (s : List ℕ) (i : ℕ) → 0 < get_or s i 0 → i < length s
there [] i h = absurd (omega arith)
there (a ∷ s) zero h = omega arith
there (a ∷ s) (suc i) h = let k = there s i h in omega arith

tail_there : (s : List ℕ) (i : ℕ) → tail (get_or s i 0) ≡ true → i < length s
tail_there s i h = let k = tail_inv (get_or s i 0) h in there s i (omega arith)

pub first_whole : (t : List ℕ) (v e : ℕ) → first t ≡ seq v e → (width v ≡ suc e) × (suc e ≤ length t)
unfolding first
first_whole [] v e h = never (cc)
first_whole (a ∷ t) v e h =
    let f = lead_whole a (get_or t 0 0) (get_or t 1 0) (get_or t 2 0) v e h in
    let few = f.few in (
      f.wide,
      split_eq e 0 (λ z. omega arith)
          (λ z. split_eq e 1 (λ y. omega (arith, tail_there t 0 (f.tail_b (omega arith))))
          (λ y. split_eq e 2 (λ x. omega (arith, tail_there t 1 (f.tail_c (omega arith))))
          (λ x. omega (arith, tail_there t 2 (f.tail_d (omega arith)))))),
    )

from_skip : (k : ℕ) (s : List ℕ) → from k s ≡ from 0 (drop k s)
unfolding from
from_skip zero [] = refl
from_skip zero (a ∷ s) = refl
from_skip (suc k) [] = refl
from_skip (suc k) (a ∷ s) = from_skip k s

pub decode_one : (t : List ℕ) (v e : ℕ) → first t ≡ seq v e → decode t ≡ v ∷ decode (drop (suc e) t)
unfolding decode from first
decode_one [] v e h = never (cc)
decode_one (a ∷ t) v e h = rw (h, from) (ap (λ (l : List ℕ). v ∷ l) (from_skip e t))

pub decode_bad : (t : List ℕ) → first t ≡ bad → decode t ≡ []
unfolding decode from
decode_bad [] h = refl
decode_bad (a ∷ t) h = rw (h, from)

-- the sequence at a place, by its bytes
abbrev pub lead_at : List ℕ → ℕ → Lead
lead_at s at = lead_of (get_or s at 0) (get_or s (at + 1) 0) (get_or s (at + 2) 0) (get_or s (at + 3) 0)

pub first_at : (s : List ℕ) (at : ℕ) → at < length s → first (drop at s) ≡ lead_at s at
unfolding first
first_at s at h =
    rw (drop-cons s at 0 h)
    (rw (get_or-drop (suc at) s 0 0, get_or-drop (suc at) s 1 0, get_or-drop (suc at) s 2 0)
    (ap₃ (omega arith) (omega arith) (omega arith)))
  where
    ap₃ : {i j k i' j' k' : ℕ} → i ≡ i' → j ≡ j' → k ≡ k' → lead_of (get_or s at 0) (get_or s i 0) (get_or s j 0) (get_or s k 0) ≡ lead_of (get_or s at 0) (get_or s i' 0) (get_or s j' 0) (get_or s k' 0)
    ap₃ p q r = λ x. lead_of (get_or s at 0) (get_or s (p x) 0) (get_or s (q x) 0) (get_or s (r x) 0)

pub step_first : (s : List ℕ) (at v e : ℕ) → first (drop at s) ≡ seq v e → Step s at v (at + suc e)
unfolding rest
step_first s at v e h =
    let f = first_whole (drop at s) v e h in
    let l = length-drop at s in
    record {
      here = decode_one (drop at s) v e h ∙ ap (λ (t : List ℕ). v ∷ decode t) (drop-drop (suc e) at s);
      next = omega arith;
      past = omega arith;
      room = omega arith;
    }

pub end_first : (s : List ℕ) (at : ℕ) → first (drop at s) ≡ bad → rest s at ≡ []
unfolding rest
end_first s at h = decode_bad (drop at s) h

pub by_first {ℓ} : {X : Type ℓ} (s : List ℕ) (at : ℕ) → (first (drop at s) ≡ bad → X) → ((v e : ℕ) → first (drop at s) ≡ seq v e → X) → X
by_first {X = X} s at f g = go (first (drop at s)) refl
  where
    go : (l : Lead) → first (drop at s) ≡ l → X
    go bad e = f e
    go (seq v n) e = g v n e

-- what `scalar_at` says of the scalars from there on, both ways
pub step_scalar : (s : List ℕ) (at v n : ℕ) → Step s at v n → Some (scalar_of v n) ≡ scalar_at s at
unfolding scalar_at head_at
step_scalar s at v n t = sym (rw t.here (ap (λ (n : ℕ). Some (scalar_of v n)) (sym t.next)))

pub none_scalar : (s : List ℕ) (at : ℕ) → rest s at ≡ [] → None ≡ scalar_at s at
unfolding scalar_at head_at
none_scalar s at e = rw e

abbrev told : Option Scalar → Scalar
told None = scalar_of 0 0
told (Some x) = x

pub step_one : (s : List ℕ) (at v n : ℕ) → scalar_at s at ≡ Some (scalar_of v n) → Step s at v n
step_one s at v n h =
    by_first s at (λ e. never (let z = none_scalar s at (end_first s at e) in cc))
    (λ v' k e.
    let t = step_first s at v' k e in
    let z = step_scalar s at v' (at + suc k) t in
    let q = ap told (z ∙ h) in
    let ev : v' ≡ v = ap (λ (x : Scalar). x.value) q in
    let en : at + suc k ≡ n = ap (λ (x : Scalar). x.next) q in
    subst (λ (p : ℕ × ℕ). Step s at p.0 p.1) (λ i. (ev i, en i)) t)

pub step_none : (s : List ℕ) (at : ℕ) → scalar_at s at ≡ None → rest s at ≡ []
step_none s at h = by_first s at (λ e. end_first s at e) (λ v k e. never (let z = step_scalar s at v (at + suc k) (step_first s at v k e) in cc))

-- cases on what stands at a place
pub by_step {ℓ} : {X : Type ℓ} (s : List ℕ) (at : ℕ) → (rest s at ≡ [] → X) → ((v n : ℕ) → Step s at v n → X) → X
by_step s at f g = by_first s at (λ e. f (end_first s at e)) (λ v k e. g v (at + suc k) (step_first s at v k e))

-- at or past the end nothing stands
pub rest_end : (s : List ℕ) (at : ℕ) → length s ≤ at → rest s at ≡ []
unfolding first
rest_end s at h = end_first s at (rw (drop_of_length-le s h))

-- a byte below 0x80 is a scalar
pub step_ascii : (s : List ℕ) (at : ℕ) → at < length s → get_or s at 0 ≤ 0x7f → Step s at (get_or s at 0) (at + 1)
unfolding lead_of
step_ascii s at h k = step_first s at (get_or s at 0) 0 (first_at s at h ∙ simp (le-leb _ _ k))

-- a byte below 0x80 that is not 0 stands inside the text, and a scalar below 0x80 is the byte there
pub byte_step : (s : List ℕ) (at : ℕ) → 0 < get_or s at 0 → get_or s at 0 ≤ 0x7f → Step s at (get_or s at 0) (at + 1)
byte_step s at h k = step_ascii s at (split_le (length s) at (λ l. absurd (omega (arith, get_or-eq_default s 0 l))) (λ l. l)) k

pub step_byte : (s : List ℕ) (at v n : ℕ) → Step s at v n → v ≤ 0x7f → (v ≡ get_or s at 0) × (n ≡ at + 1)
step_byte s at v n t h =
    let one = width_1 v h in
    let l : at < length s = omega (arith, t.past, t.room) in
    let y = t.here in (
      split_le (get_or s at 0) 0x7f (λ k. let z = (step_ascii s at l k).here in cc)
          (λ k.
          by_first s at (λ e. never (let z = end_first s at e in cc))
          (λ w e q.
          let z = (step_first s at w e q).here in
          let ev : w ≡ v = cc in
          let wide = (lead_whole _ _ _ _ w e (sym (first_at s at l) ∙ q)).wide in
          let none : e ≡ 0 = omega (arith, ap width ev) in
          absurd (value_zero _ _ _ _ w k (sym (first_at s at l) ∙ q ∙ ap (seq w) none)))),
      omega (arith, t.next),
    )

pub wide_bytes : (a : ℕ) {b b' c c' d d' : ℕ} → b ≡ b' → c ≡ c' → d ≡ d' → wide_of a b c d ≡ wide_of a b' c' d'
wide_bytes a p q r = λ i. wide_of a (p i) (q i) (r i)

-- a longer sequence, by the value that the code finds
module _ (s : List ℕ) (at : ℕ) (h : at < length s) (hi : 0x7f < get_or s at 0) (w : Option ℕ)
    (ew : w ≡ wide_of (get_or s at 0) (get_or s (at + 1) 0) (get_or s (at + 2) 0) (get_or s (at + 3) 0)) where
  wide_is : w ≡ value_of (first (drop at s))
  wide_is = ew ∙ wide_lead (get_or s at 0) (get_or s (at + 1) 0) (get_or s (at + 2) 0) (get_or s (at + 3) 0) hi ∙ ap value_of (sym (first_at s at h))

  at_whole : (v e : ℕ) → first (drop at s) ≡ seq v e → Whole (get_or s at 0) (get_or s (at + 1) 0) (get_or s (at + 2) 0) (get_or s (at + 3) 0) v e
  at_whole v e q = lead_whole _ _ _ _ v e (sym (first_at s at h) ∙ q)

  -- only a first byte below 0x80 has no other byte after it
  longer : (v e : ℕ) → first (drop at s) ≡ seq v e → 1 ≤ e
  longer v e q =
      split_eq e 0
      (λ z. absurd (omega (arith, value_zero (get_or s at 0) (get_or s (at + 1) 0) (get_or s (at + 2) 0) (get_or s (at + 3) 0) v hi (sym (first_at s at h) ∙ q ∙ ap (seq v) z))))
      (λ z. omega arith)

  pub wide_none : w ≡ None → rest s at ≡ []
  wide_none z =
      by_first s at (λ e. end_first s at e)
      (λ v e q. never (let u = wide_is ∙ ap value_of q in cc))

  pub wide_one : (x : ℕ) → w ≡ Some x → (n : ℕ) → n ≡ step_of (get_or s at 0) → Step s at x (at + n)
  wide_one x z n en =
      by_first s at (λ e. never (let u = wide_is ∙ ap value_of e in cc))
      (λ v e q.
      let u = wide_is ∙ ap value_of q in
      let ev : v ≡ x = cc in
      let ee : at + suc e ≡ at + n = ap (λ (k : ℕ). at + k) (sym (en ∙ (at_whole v e q).steps (longer v e q))) in
      subst (λ (p : ℕ × ℕ). Step s at p.0 p.1) (λ i. (ev i, ee i)) (step_first s at v e q))

-- the scalar after the first
pub second_none : (s : List ℕ) (at : ℕ) → rest s at ≡ [] → None ≡ second_at s at
unfolding second_at second_of
second_none s at e = rw e

pub second_one : (s : List ℕ) (at v n : ℕ) → Step s at v n → scalar_at s n ≡ second_at s at
unfolding second_at second_of scalar_at
second_one s at v n t = sym (rw t.here (ap (head_at (rest s n)) (sym t.next)))

pub width_pos : (v : ℕ) → 0 < width v
unfolding width
width_pos v =
    split (leb v 0x7f) (λ a. simp a (omega arith))
    (λ a. split (leb v 0x7ff) (λ b. simp (a, b) (omega arith)) (λ b. split (leb v 0xffff) (λ c. simp (a, b, c) (omega arith)) (λ c. simp (a, b, c) (omega arith))))

-- what follows the first scalar from a place on
pub rest_tail : (s : List ℕ) (p v : ℕ) (cs : List ℕ) → v ∷ cs ≡ rest s p → cs ≡ rest s (p + width v)
rest_tail s p v cs h =
    by_step s p (λ e. never (cc))
    (λ v' n t.
    let y = t.here in
    let ev : v' ≡ v = cc in
    let ec : cs ≡ rest s n = cc in
    ec ∙ ap (rest s) (t.next ∙ ap (λ (x : ℕ). p + width x) ev))

pub rest_room : (s : List ℕ) (p v : ℕ) (cs : List ℕ) → v ∷ cs ≡ rest s p → p + width v ≤ length s
rest_room s p v cs h =
    by_step s p (λ e. never (cc))
    (λ v' n t.
    let y = t.here in
    let ev : v' ≡ v = cc in
    let r = t.room in
    let q = t.next ∙ ap (λ (x : ℕ). p + width x) ev in
    omega arith)

-- the place after all the scalars
pub after_step : (s : List ℕ) (at v n : ℕ) → Step s at v n → after (rest s n) n ≡ after (rest s at) at
unfolding after
after_step s at v n t = sym (rw t.here (ap (after (rest s n)) (sym t.next)))

pub after_end : (s : List ℕ) (at : ℕ) → rest s at ≡ [] → after (rest s at) at ≡ at
unfolding after
after_end s at e = rw e
