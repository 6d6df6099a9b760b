-- Steps of the tests of a state. Assumes nothing.
use Prim.Native.Nat.{ℕ, suc, ◌+◌, ◌-◌, ◌%◌, ◌≤◌, ◌<◌}
use mathlib.Core.Path.{◌≡◌, ap, ◌∙◌}
use mathlib.Core.List.{List}
use mathlib.Core.Bool.{Bool, true, false}
use native.Mathlib.Omega.{arith}
use lib.Dec.{leb, ltb}
use lib.ListN.{get_or}
use borrow.Author.Tests.{leb-true, ltb-true}
use Rattle.laws.proofs.Cases.{both_inv}
use Rattle.laws.specs.Bools.{both}
use Rattle.looks.specs.Numbered.{token_count}
use Rattle.looks.specs.Sound.{ascends_by, bounded_by, count_sum, follows_by}
use Rattle.ahead.specs.declared.Nums.{Nums}

module _ (count at j : ℕ) (h : j < count) where
  step_left : count - j ≡ suc (count - (j + 1))
  step_left = omega arith

  step_at_law : at + j + 1 ≡ at + (j + 1)
  step_at_law = omega arith

  module _ (white : Bool) (l : List ℕ) (size : ℕ) (ring : List ℕ) (low top : ℕ) where
    pub ascends_fail : follows_by white l (get_or ring ((at + j) % size) 0) low top ≡ false → ascends_by white l size ring (count - j) (at + j) low top ≡ false
    unfolding ascends_by
    ascends_fail f = ap (λ (n : ℕ). ascends_by white l size ring n (at + j) low top) step_left ∙ rw f

    pub ascends_more : follows_by white l (get_or ring ((at + j) % size) 0) low top ≡ true
        → ascends_by white l size ring (count - j) (at + j) low top ≡ ascends_by white l size ring (count - (j + 1)) (at + (j + 1)) (get_or ring ((at + j) % size) 0 + 1) top
    unfolding ascends_by
    ascends_more f =
        ap (λ (n : ℕ). ascends_by white l size ring n (at + j) low top) step_left ∙ (rw f)
        ∙ ap (λ (a : ℕ). ascends_by white l size ring (count - (j + 1)) a (get_or ring ((at + j) % size) 0 + 1) top) step_at_law

  pub sum_more : (ring : List ℕ) → count_sum ring (count - j) (at + j) ≡ get_or ring ((at + j) % 8) 0 + count_sum ring (count - (j + 1)) (at + (j + 1))
  unfolding count_sum
  sum_more ring =
      ap (λ (n : ℕ). count_sum ring n (at + j)) step_left
      ∙ ap (λ (a : ℕ). get_or ring ((at + j) % 8) 0 + count_sum ring (count - (j + 1)) a) step_at_law

module _ (count at j : ℕ) (h : count ≤ j) where
  step_none : count - j ≡ 0
  step_none = omega arith

  pub ascends_end : (white : Bool) (l : List ℕ) (size : ℕ) (ring : List ℕ) (low top : ℕ) → ascends_by white l size ring (count - j) (at + j) low top ≡ true
  unfolding ascends_by
  ascends_end white l size ring low top = ap (λ (n : ℕ). ascends_by white l size ring n (at + j) low top) step_none

  pub sum_end : (ring : List ℕ) → count_sum ring (count - j) (at + j) ≡ 0
  unfolding count_sum
  sum_end ring = ap (λ (n : ℕ). count_sum ring n (at + j)) step_none

-- what the tests of the numbers say
pub record Bounded (l : List ℕ) (m : Nums) : Type 0 where
  pub held_few : m.held_len ≤ 8
  pub wait_few : m.wait_len ≤ 256
  pub held_in : m.held_at < 8
  pub wait_in : m.wait_at < 256
  pub reach : m.next ≤ token_count l

pub bounded_inv : (l : List ℕ) (m : Nums) → bounded_by l m ≡ true → Bounded l m
unfolding bounded_by
bounded_inv l m h =
    let a = both_inv (both (leb m.held_len 8) (leb m.wait_len 256)) _ h in
    let b = both_inv (leb m.held_len 8) (leb m.wait_len 256) a.0 in
    let d = both_inv (both (ltb m.held_at 8) (ltb m.wait_at 256)) (leb m.next (token_count l)) a.1 in
    let e = both_inv (ltb m.held_at 8) (ltb m.wait_at 256) d.0 in
    record {
      held_few = leb-true _ _ b.0;
      wait_few = leb-true _ _ b.1;
      held_in = ltb-true _ _ e.0;
      wait_in = ltb-true _ _ e.1;
      reach = leb-true _ _ d.1;
    }
