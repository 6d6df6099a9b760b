-- A table of ranges read two entries a turn, and left where the ranges have passed the number looked for. Assumes nothing.
use Prim.Native.Nat.{ℕ, suc, ◌+◌, ◌≤◌, ◌<◌}
use mathlib.Core.Path.{◌≡◌, refl, sym, ap, ◌∙◌}
use mathlib.Core.List.{List, [], ◌∷◌}
use mathlib.Core.Bool.{true, false}
use native.Mathlib.Omega.{arith}
use native.Mathlib.Numerals.{add-one}
use lib.Dec.{leb}
use lib.Seq.{drop-cons}
use lib.ListN.{drop, get_or, length, length-drop}
use borrow.Author.Tests.{leb-true}
use Rattle.laws.proofs.Cases.{both_inv, within_high, within_low, within_yes}
use Rattle.laws.specs.Bools.{both, either, within}
use Rattle.laws.specs.Tables.{in_ranges, ordered}

ordered_inv : (b lo hi : ℕ) (t : List ℕ) → ordered b (lo ∷ (hi ∷ t)) ≡ true → (b ≤ lo) × (lo ≤ hi) × (ordered (suc hi) t ≡ true)
unfolding ordered
ordered_inv b lo hi t h =
    let i = both_inv (leb b lo) (both (leb lo hi) (ordered (suc hi) t)) h in
    let j = both_inv (leb lo hi) (ordered (suc hi) t) i.1 in
    (leb-true b lo i.0, leb-true lo hi j.0, j.1)

-- a number below all ranges is in none
pub ranges_before : (t : List ℕ) (b v : ℕ) → ordered b t ≡ true → v < b → in_ranges t v ≡ false
unfolding in_ranges ordered
ranges_before [] b v o h = refl
ranges_before (lo ∷ []) b v o h = refl
ranges_before (lo ∷ (hi ∷ t)) b v o h =
    let i = ordered_inv b lo hi t o in
    rw (within_low lo hi v (omega arith)) (ranges_before t (suc hi) v i.2 (omega arith))

-- the table from entry i on, two entries taken off
ranges_pair : (t : List ℕ) (i : ℕ) → i + 1 < length t → drop i t ≡ get_or t i 0 ∷ (get_or t (i + 1) 0 ∷ drop (i + 2) t)
ranges_pair t i h =
    let two : suc (i + 1) ≡ i + 2 = omega arith in
    let l : i < length t = omega arith in
    drop-cons t i 0 l ∙ ap (λ (r : List ℕ). get_or t i 0 ∷ r) (ap (λ (k : ℕ). drop k t) (sym (add-one i)) ∙ drop-cons t (i + 1) 0 h ∙ ap (λ (k : ℕ). get_or t (i + 1) 0 ∷ drop k t) two)

short : (l : List ℕ) (v : ℕ) → length l ≤ 1 → in_ranges l v ≡ false
unfolding in_ranges
short [] v h = refl
short (a ∷ []) v h = refl
short (a ∷ (b ∷ l)) v h = absurd (omega arith)

-- what is known at entry i of a table in order: what is left is in order, from some number on
abbrev pub Ordered : List ℕ → ℕ → Type 0
Ordered t i = (b : ℕ) × (ordered b (drop i t) ≡ true)

module _ (t : List ℕ) (i v : ℕ) where
  pub ranges_end : length t ≤ i + 1 → in_ranges (drop i t) v ≡ false
  ranges_end h = short (drop i t) v (omega (arith, length-drop i t))

  module _ (h : i + 1 < length t) where
    ranges_turn : in_ranges (drop i t) v ≡ either (within (get_or t i 0) (get_or t (i + 1) 0) v) (in_ranges (drop (i + 2) t) v)
    unfolding in_ranges
    ranges_turn = ap (λ (l : List ℕ). in_ranges l v) (ranges_pair t i h)

    pub ranges_hit : get_or t i 0 ≤ v → v ≤ get_or t (i + 1) 0 → in_ranges (drop i t) v ≡ true
    ranges_hit a b = rw (ranges_turn, within_yes _ _ _ a b)

    pub ranges_above : get_or t (i + 1) 0 < v → in_ranges (drop (i + 2) t) v ≡ in_ranges (drop i t) v
    ranges_above a = sym (ranges_turn ∙ rw (within_high (get_or t i 0) (get_or t (i + 1) 0) v a))

    module _ (o : Ordered t i) where
      parts : (o.0 ≤ get_or t i 0) × (get_or t i 0 ≤ get_or t (i + 1) 0) × (ordered (suc (get_or t (i + 1) 0)) (drop (i + 2) t) ≡ true)
      parts = ordered_inv o.0 (get_or t i 0) (get_or t (i + 1) 0) (drop (i + 2) t) (sym (ap (ordered o.0) (ranges_pair t i h)) ∙ o.1)

      pub ranges_below : v < get_or t i 0 → in_ranges (drop i t) v ≡ false
      ranges_below a = rw (ranges_turn, within_low (get_or t i 0) (get_or t (i + 1) 0) v a) (ranges_before (drop (i + 2) t) (suc (get_or t (i + 1) 0)) v parts.2 (omega (arith, parts.1)))

      pub ordered_next : Ordered t (i + 2)
      ordered_next = (suc (get_or t (i + 1) 0), parts.2)
