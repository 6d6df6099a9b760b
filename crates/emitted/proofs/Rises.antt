-- Numbers that ascend, as a list: one after another, without the first ones, in a row. Assumes nothing.
use Prim.Native.Nat.{ℕ, zero, suc, ◌+◌, ◌%◌, ◌≤◌, ◌<◌}
use mathlib.Core.Path.{◌≡◌, refl, sym, ap}
use mathlib.Core.List.{List, [], ◌∷◌, ◌++◌}
use mathlib.Core.Bool.{Bool, true, false}
use native.Mathlib.Omega.{arith}
use lib.Dec.{leb, ltb}
use lib.ListN.{get_or}
use borrow.Author.Tests.{le-leb, leb-true, lt-ltb, ltb-true}
use Rattle.emitted.proofs.Slots.{range, slots}
use Rattle.laws.proofs.Cases.{both_inv, same_inv}
use Rattle.laws.specs.Bools.{both, same}
use Rattle.looks.specs.Numbered.{is_white, kind_at}
use Rattle.looks.specs.Sound.{ascends_by, count_sum, follows_by}

unfoldable pub rises : Bool → List ℕ → List ℕ → ℕ → ℕ → Bool
rises white l [] low top = true
rises white l (x ∷ xs) low top = both (follows_by white l x low top) (rises white l xs (x + 1) top)

unfoldable pub total : List ℕ → ℕ
total [] = 0
total (c ∷ cs) = c + total cs

pub ascends_rises : (white : Bool) (l : List ℕ) (size : ℕ) (ring : List ℕ) (n at low top : ℕ) → ascends_by white l size ring n at low top ≡ rises white l (slots size ring at n) low top
unfolding ascends_by rises slots
ascends_rises white l size ring zero at low top = refl
ascends_rises white l size ring (suc n) at low top =
    let x = get_or ring (at % size) 0 in
    ap (both (follows_by white l x low top)) (ascends_rises white l size ring n (at + 1) (x + 1) top)

pub sum_total : (ring : List ℕ) (n at : ℕ) → count_sum ring n at ≡ total (slots 8 ring at n)
unfolding count_sum total slots
sum_total ring zero at = refl
sum_total ring (suc n) at = ap (λ (k : ℕ). get_or ring (at % 8) 0 + k) (sum_total ring n (at + 1))

pub total_one : (c : ℕ) → total (c ∷ []) ≡ c
unfolding total
total_one c = omega arith

pub total_append : (cs ds : List ℕ) → total (cs ++ ds) ≡ total cs + total ds
unfolding total
total_append [] ds = omega arith
total_append (c ∷ cs) ds = let h = total_append cs ds in omega arith

same_yes : (b : Bool) → same b b ≡ true
same_yes true = refl
same_yes false = refl

-- one number that follows
pub record Follows (white : Bool) (l : List ℕ) (x low top : ℕ) : Type 0 where
  pub from : low ≤ x
  pub to : x < top
  pub kind : white ≡ is_white (kind_at l x)

module _ (white : Bool) (l : List ℕ) where
  pub rises_none : (low top : ℕ) → rises white l [] low top ≡ true
  unfolding rises
  rises_none low top = refl

  pub follows_inv : (x low top : ℕ) → follows_by white l x low top ≡ true → Follows white l x low top
  follows_inv x low top h =
      let a = both_inv (both (leb low x) (ltb x top)) (same white (is_white (kind_at l x))) h in
      let b = both_inv (leb low x) (ltb x top) a.0 in
      record { from = leb-true low x b.0; to = ltb-true x top b.1; kind = same_inv white (is_white (kind_at l x)) a.1 }

  pub follows_yes : (x low top : ℕ) → Follows white l x low top → follows_by white l x low top ≡ true
  follows_yes x low top f = rw (le-leb low x f.from, lt-ltb x top f.to, sym f.kind) (same_yes white)

  pub rises_cons : (x : ℕ) (xs : List ℕ) (low top : ℕ) → rises white l (x ∷ xs) low top ≡ true → Follows white l x low top × (rises white l xs (x + 1) top ≡ true)
  unfolding rises
  rises_cons x xs low top h = let a = both_inv (follows_by white l x low top) (rises white l xs (x + 1) top) h in (follows_inv x low top a.0, a.1)

  pub cons_rises : (x : ℕ) (xs : List ℕ) (low top : ℕ) → Follows white l x low top → rises white l xs (x + 1) top ≡ true → rises white l (x ∷ xs) low top ≡ true
  unfolding rises
  cons_rises x xs low top f h = rw (follows_yes x low top f) h

  pub rises_low : (xs : List ℕ) (low mid top : ℕ) → low ≤ mid → rises white l xs mid top ≡ true → rises white l xs low top ≡ true
  unfolding rises
  rises_low [] low mid top h r = refl
  rises_low (x ∷ xs) low mid top h r =
      let a = rises_cons x xs mid top r in
      let from = a.0.from in
      cons_rises x xs low top (record { from = omega arith; to = a.0.to; kind = a.0.kind }) a.1

  pub rises_append : (xs ys : List ℕ) (low mid top : ℕ) → low ≤ mid → mid ≤ top → rises white l xs low mid ≡ true → rises white l ys mid top ≡ true → rises white l (xs ++ ys) low top ≡ true
  rises_append [] ys low mid top h k r s = rises_low ys low mid top h s
  rises_append (x ∷ xs) ys low mid top h k r s =
      let a = rises_cons x xs low mid r in
      let to = a.0.to in
      cons_rises x (xs ++ ys) low top (record { from = a.0.from; to = omega arith; kind = a.0.kind })
      (rises_append xs ys (x + 1) mid top (omega arith) k a.1 s)

  pub rises_behind : (xs ys : List ℕ) (low top : ℕ) → rises white l (xs ++ ys) low top ≡ true → rises white l ys 0 top ≡ true
  rises_behind [] ys low top r = rises_low ys 0 low top (omega arith) r
  rises_behind (x ∷ xs) ys low top r = rises_behind xs ys (x + 1) top (rises_cons x (xs ++ ys) low top r).1

  pub rises_before : (xs ys : List ℕ) (low top : ℕ) → rises white l (xs ++ ys) low top ≡ true → rises white l xs low top ≡ true
  rises_before [] ys low top r = rises_none low top
  rises_before (x ∷ xs) ys low top r =
      let a = rises_cons x (xs ++ ys) low top r in
      cons_rises x xs low top a.0 (rises_before xs ys (x + 1) top a.1)

  pub rises_range : (n i top : ℕ) → i + n ≤ top → ((k : ℕ) → i ≤ k → k < i + n → white ≡ is_white (kind_at l k)) → rises white l (range i n) i top ≡ true
  unfolding range rises
  rises_range zero i top h all = refl
  rises_range (suc n) i top h all =
      cons_rises i (range (i + 1) n) i top (record { from = omega arith; to = omega arith; kind = all i (omega arith) (omega arith) })
      (rises_range n (i + 1) top (omega arith) (λ k a b. all k (omega arith) (omega arith)))

  -- top may grow
  pub rises_top : (xs : List ℕ) (low top more : ℕ) → top ≤ more → rises white l xs low top ≡ true → rises white l xs low more ≡ true
  unfolding rises
  rises_top [] low top more h r = refl
  rises_top (x ∷ xs) low top more h r =
      let a = rises_cons x xs low top r in
      let to = a.0.to in
      cons_rises x xs low more (record { from = a.0.from; to = omega arith; kind = a.0.kind }) (rises_top xs (x + 1) top more h a.1)
