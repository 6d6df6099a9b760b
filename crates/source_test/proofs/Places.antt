-- In a well-formed source the places of scalars are the positions where no tail byte stands. Assumes nothing.
use Rattle.std.specs.Prelude.{Err, Ok}
use Rattle.token.specs.Reads.{Tested}
use Prim.Native.Nat.{ℕ, suc, ◌+◌, ◌≤◌, ◌<◌}
use mathlib.Core.Path.{◌≡◌, refl, sym, ap, ◌∙◌, subst}
use mathlib.Core.List.{List, [], ◌∷◌}
use mathlib.Core.Bool.{Bool, true, false, not}
use native.Mathlib.Omega.{arith}
use lib.Dec.{ltb, eqb}
use lib.ListN.{get_or-eq_default, get_or, length}
use borrow.Author.Tests.{eq-eqb, eqb-true, le-leb, lt-leb, ltb-false, ne_eqb}
use Rattle.laws.proofs.Cases.{never, split, split_eq, split_le}
use Rattle.laws.specs.Bools.{pick}
use Rattle.source_test.specs.Source.{boundary, is_place, no_place, position_test, sound_to, source_test}
use Rattle.text.proofs.Decode.{Step, by_first, by_step, end_first, first_at, rest_tail, step_first}
use Rattle.text.proofs.Leads.{Whole, lead_whole}
use Rattle.text.specs.Utf8.{after, rest, seq, tail, width}
use Rattle.token.specs.declared.read.Refusal.{Refusal}

place_before : (cs : List ℕ) (p at : ℕ) → at < p → is_place cs p at ≡ false
unfolding is_place
place_before [] p at h = ne_eqb p at (omega arith)
place_before (v ∷ cs) p at h = rw (ne_eqb p at (omega arith)) (place_before cs (p + width v) at (omega arith))

-- the bytes of a scalar after its first one are tails, and the first is none
module _ (s : List ℕ) (p v n : ℕ) (t : Step s p v n) where
  whole_at : (e : ℕ) × ((p + suc e ≡ n) × Whole (get_or s p 0) (get_or s (p + 1) 0) (get_or s (p + 2) 0) (get_or s (p + 3) 0) v e)
  whole_at =
      let r = t.room in let l = t.past in
      by_first s p (λ e. never (let z = end_first s p e in let y = t.here in cc))
      (λ v' e q.
      let u = step_first s p v' e q in
      let x = u.here in
      let y = t.here in
      let ev : v' ≡ v = cc in
      let w = lead_whole _ _ _ _ v e (sym (first_at s p (omega arith)) ∙ q ∙ ap (λ (k : ℕ). seq k e) ev) in
      let a = w.wide in let b = t.next in
      (e, (omega arith, w)))

  front_bare : tail (get_or s p 0) ≡ false
  front_bare = whole_at.1.1.front

  inner_tail : (at : ℕ) → p < at → at < n → tail (get_or s at 0) ≡ true
  inner_tail at h k =
      let e = whole_at.0 in
      let w = whole_at.1.1 in
      let q = whole_at.1.0 in
      let few = w.few in
      split_eq at (p + 1) (λ i. subst (λ (x : ℕ). tail (get_or s x 0) ≡ true) (sym i) (w.tail_b (omega arith)))
      (λ i. split_eq at (p + 2) (λ j. subst (λ (x : ℕ). tail (get_or s x 0) ≡ true) (sym j) (w.tail_c (omega arith)))
      (λ j. let m : at ≡ p + 3 = omega arith in subst (λ (x : ℕ). tail (get_or s x 0) ≡ true) (sym m) (w.tail_d (omega arith))))

boundary_end : (s : List ℕ) (at : ℕ) → length s ≤ at → boundary s at ≡ eqb (length s) at
unfolding boundary
boundary_end s at h =
    split_eq (length s) at
    (λ e. rw (eq-eqb _ _ e, le-leb at (length s) (omega arith), get_or-eq_default s 0 h))
    (λ e. rw (ne_eqb _ _ e, lt-leb at (length s) (omega arith)))

boundary_in : (s : List ℕ) (at : ℕ) (b : Bool) → at ≤ length s → tail (get_or s at 0) ≡ b → boundary s at ≡ not b
unfolding boundary
boundary_in s at b h e = rw (le-leb at (length s) h, e)

-- from the place p on, over the scalars cs that stand there
from_place : (s : List ℕ) (cs : List ℕ) (p at : ℕ) → cs ≡ rest s p → after cs p ≡ length s → p ≤ at → boundary s at ≡ is_place cs p at
unfolding is_place after
from_place s [] p at e h l = boundary_end s at (omega arith) ∙ ap (λ (n : ℕ). eqb n at) (sym h)
from_place s (v ∷ cs) p at e h l =
    by_step s p (λ z. never (cc))
    (λ v' n t.
    let y = t.here in
    let ev : v' ≡ v = cc in
    let en : n ≡ p + width v = t.next ∙ ap (λ (x : ℕ). p + width x) ev in
    let r = t.room in
    let ps = t.past in
    split_eq p at
    (λ q. rw (eq-eqb p at q) (boundary_in s at false (omega arith) (subst (λ (x : ℕ). tail (get_or s x 0) ≡ false) q (front_bare s p v' n t))))
    (λ q. rw (ne_eqb p at q) (split_le n at
    (λ m. from_place s cs (p + width v) at (rest_tail s p v cs e) h (omega arith))
    (λ m. boundary_in s at true (omega arith) (inner_tail s p v' n t at (omega arith) m) ∙ sym (place_before cs (p + width v) at (omega arith))))))

pub boundary_place : (s : List ℕ) (at : ℕ) → sound_to s ≡ length s → boundary s at ≡ is_place (rest s 0) 0 at
unfolding sound_to
boundary_place s at h = from_place s (rest s 0) 0 at refl h (omega arith)

-- a test's two answers
pub by_tested {ℓ} : {X : Type ℓ} (t : Tested) → (t ≡ Ok tt → X) → ((r : Refusal) → t ≡ Err r → X) → X
by_tested (Ok tt) f g = f refl
by_tested (Err r) f g = g r refl

pub sound_inv : (s : List ℕ) → source_test s ≡ Ok tt → (length s ≤ 65536) × (sound_to s ≡ length s)
unfolding source_test
sound_inv s h =
    split (ltb 65536 (length s)) (λ t. never (let z = (rw t at h) in cc))
    (λ t. split (eqb (sound_to s) (length s)) (λ u. (ltb-false _ _ t, eqb-true _ _ u)) (λ u. never (let z = (rw (t, u) at h) in cc)))

pub position_other : (s : List ℕ) (at : ℕ) (t : Tested) → t ≡ source_test s → (t ≡ Ok tt → ⊥) → t ≡ position_test s at
unfolding position_test
position_other s at (Ok tt) e n = absurd (n refl)
position_other s at (Err r) e n = rw (← e, position_test)

pub position_place : (s : List ℕ) (at : ℕ) → source_test s ≡ Ok tt → pick (boundary s at) (Ok tt) (no_place at) ≡ position_test s at
unfolding position_test
position_place s at e = rw (e, position_test) (ap (λ (b : Bool). pick b (Ok tt) (no_place at)) (boundary_place s at (sound_inv s e).1))
