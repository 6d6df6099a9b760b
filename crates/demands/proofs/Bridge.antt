-- From bytes to scalars: the scalars of a painted source are its scalars painted. Assumes nothing.
use Prim.Native.Nat.{ℕ, zero, suc, ◌+◌, ◌≤◌, ◌<◌}
use mathlib.Core.Path.{◌≡◌, refl, sym, ap, ◌∙◌}
use mathlib.Core.List.{List, [], ◌∷◌, ◌++◌}
use mathlib.Core.Bool.{Bool, true, false}
use native.Mathlib.Omega.{arith}
use lib.Dec.{leb}
use lib.ListN.{drop, get_or, length}
use Rattle.demands.specs.Scalars.{Even, flat}
use Rattle.families.proofs.Ends.{after_le, bytes_after}
use Rattle.families.specs.Places.{place_after}
use Rattle.families.specs.Shape.{xs}
use Rattle.laws.proofs.Cases.{never, split}
use Rattle.outline.proofs.Shading.{paint_length}
use Rattle.outline.specs.Outline.{paint}
use Rattle.source_test.specs.Source.{sound_to}
use Rattle.text.proofs.Decode.{by_first, end_first, first_at, first_whole, rest_end, rest_tail, step_ascii, step_first}
use Rattle.text.proofs.Leads.{four_inv, three_inv, two_inv}
use Rattle.text.specs.Utf8.{first, four_of, lead_of, rest, seq, three_of, two_of, width}

-- a sequence is known by its own bytes
module _ (a b c d b' c' d' v e : ℕ) (hb : 1 ≤ e → b' ≡ b) (hc : 2 ≤ e → c' ≡ c) (hd : 3 ≤ e → d' ≡ d) where
  two_own : two_of a b ≡ seq v e → two_of a b' ≡ seq v e
  two_own h = let n = (two_inv a b v e h).more in rw (hb (omega arith)) h

  three_own : three_of a b c ≡ seq v e → three_of a b' c' ≡ seq v e
  three_own h = let n = (three_inv a b c v e h).more in rw (hb (omega arith), hc (omega arith)) h

  four_own : four_of a b c d ≡ seq v e → four_of a b' c' d' ≡ seq v e
  four_own h = let n = (four_inv a b c d v e h).more in rw (hb (omega arith), hc (omega arith), hd (omega arith)) h

  pub lead_own : lead_of a b c d ≡ seq v e → lead_of a b' c' d' ≡ seq v e
  unfolding lead_of
  lead_own h =
      split (leb a 0x7f) (λ t. simp t (simp t at h))
      (λ t. split (leb a 0xdf) (λ u. simp (t, u) (two_own (simp (t, u) at h)))
      (λ u. split (leb a 0xef) (λ w. simp (t, u, w) (three_own (simp (t, u, w) at h)))
      (λ w. simp (t, u, w) (four_own (simp (t, u, w) at h)))))

-- a scalar of s at p is one of t too, where t has its bytes
pub own_step : (s t : List ℕ) (p v : ℕ) (cs : List ℕ) → v ∷ cs ≡ rest s p → p + width v ≤ length t → ((i : ℕ) → i < width v → get_or t (p + i) 0 ≡ get_or s (p + i) 0) → rest t p ≡ v ∷ rest t (p + width v)
own_step s t p v cs h len g =
    by_first s p (λ e. never (let z = end_first s p e in cc))
    (λ v' k e.
    let z = step_first s p v' k e in
    let y = z.here in
    let ev : v' ≡ v = cc in
    let w : width v ≡ suc k = ap width (sym ev) ∙ (first_whole (drop p s) v' k e).0 in
    let past = z.past in
    let room = z.room in
    let at_first : p + 0 ≡ p = omega arith in
    let f : first (drop p t) ≡ seq v' k =
    first_at t p (omega arith)
    ∙ ap (λ (x : ℕ). lead_of x (get_or t (p + 1) 0) (get_or t (p + 2) 0) (get_or t (p + 3) 0)) (rw at_first at (g 0 (omega arith)))
    ∙ lead_own (get_or s p 0) (get_or s (p + 1) 0) (get_or s (p + 2) 0) (get_or s (p + 3) 0) (get_or t (p + 1) 0) (get_or t (p + 2) 0) (get_or t (p + 3) 0) v' k
    (λ l. g 1 (omega arith)) (λ l. g 2 (omega arith)) (λ l. g 3 (omega arith)) (sym (first_at s p (omega arith)) ∙ e) in
    let u = step_first t p v' k f in
    let n : p + suc k ≡ p + width v = omega arith in
    u.here ∙ (λ i. ev i ∷ rest t (n i)))

-- painted bytes, one at a time
module _ (m : ℕ → Bool) where
  pub paint_in : (s : List ℕ) (p i : ℕ) → i < length s → m (p + i) ≡ true → get_or (paint m s p) i 0 ≡ 120
  unfolding paint
  paint_in [] p i h k = absurd (omega arith)
  paint_in (b ∷ s) p zero h k = let e : p + 0 ≡ p = omega arith in let z : m p ≡ true = (rw e at k) in rw z
  paint_in (b ∷ s) p (suc i) h k = let e : p + suc i ≡ suc p + i = omega arith in paint_in s (suc p) i (omega arith) (rw e at k)

  pub paint_out : (s : List ℕ) (p i : ℕ) → m (p + i) ≡ false → get_or (paint m s p) i 0 ≡ get_or s i 0
  unfolding paint
  paint_out [] p i k = refl
  paint_out (b ∷ s) p zero k = let e : p + 0 ≡ p = omega arith in let z : m p ≡ false = (rw e at k) in rw z
  paint_out (b ∷ s) p (suc i) k = let e : p + suc i ≡ suc p + i = omega arith in paint_out s (suc p) i (rw e at k)

-- x, as often as it stands there
pub xs_run : (t : List ℕ) (k p : ℕ) → p + k ≤ length t → ((i : ℕ) → i < k → get_or t (p + i) 0 ≡ 120) → rest t p ≡ xs k ++ rest t (p + k)
xs_run t zero p h g = let e : p ≡ p + 0 = omega arith in ap (rest t) e
xs_run t (suc k) p h g =
    let e : p + 0 ≡ p = omega arith in
    let x : get_or t p 0 ≡ 120 = (rw e at (g 0 (omega arith))) in
    let u = step_ascii t p (omega arith) (omega arith) in
    let n : p + 1 + k ≡ p + suc k = omega arith in
    let left : rest t (p + 1) ≡ xs k ++ rest t (p + 1 + k) = xs_run t k (p + 1) (omega arith) (λ i l. let y : p + suc i ≡ p + 1 + i = omega arith in (rw y at (g (suc i) (omega arith)))) in
    u.here ∙ (λ i. x i ∷ left i) ∙ ap (λ (q : ℕ). 120 ∷ (xs k ++ rest t q)) n

module _ (m : ℕ → Bool) (s : List ℕ) where
  scalars : (cs : List ℕ) (p : ℕ) → cs ≡ rest s p → place_after width cs p ≡ length s → Even m cs p → rest (paint m s 0) p ≡ flat m cs p
  unfolding place_after flat
  scalars [] p e h g = rest_end (paint m s 0) p (let l = paint_length m s 0 in omega arith)
  scalars (v ∷ cs) p e h g =
      let t = paint m s 0 in
      let ih = scalars cs (p + width v) (rest_tail s p v cs e) h g.1 in
      let room = after_le width cs (p + width v) in
      let len = paint_length m s 0 in
      let from0 : (i : ℕ) → p + i ≡ 0 + (p + i) = λ i. omega arith in
      split (m p)
      (λ k. rw k
      (xs_run t (width v) p (omega arith) (λ i l. paint_in m s 0 (p + i) (omega arith) (rw (from0 i) at (g.0 i l ∙ k)))
      ∙ ap (λ (l : List ℕ). xs (width v) ++ l) ih))
      (λ k. rw k (own_step s t p v cs e (omega arith) (λ i l. paint_out m s 0 (p + i) (rw (from0 i) at (g.0 i l ∙ k))) ∙ ap (λ (l : List ℕ). v ∷ l) ih))

  pub painted_scalars : sound_to s ≡ length s → Even m (rest s 0) 0 → rest (paint m s 0) 0 ≡ flat m (rest s 0) 0
  unfolding sound_to
  painted_scalars h g = scalars (rest s 0) 0 refl (bytes_after (rest s 0) 0 ∙ h) g
