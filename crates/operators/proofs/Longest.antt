-- Operators: the code reads two characters first, and a third only after two that are an operator. Assumes nothing.
use Rattle.std.specs.Prelude.{None, Option, Some}
use Prim.Native.Nat.{ℕ, ◌+◌}
use mathlib.Core.Path.{◌≡◌, refl, sym, ap, ◌∙◌}
use mathlib.Core.List.{List, [], ◌∷◌}
use mathlib.Core.Bool.{false}
use lib.Dec.{eqb}
use borrow.Author.Tests.{ne_eqb}
use Rattle.laws.proofs.Cases.{both_false, never, split_eq}
use Rattle.laws.specs.Bools.{both}
use Rattle.operators.specs.Operators.{find_one, find_three, find_two, look_three, look_two, operator, operator_of, threes, twos}
use Rattle.text.proofs.Decode.{Step}
use Rattle.text.specs.Utf8.{rest, width}
use Rattle.token.specs.declared.kind.Kind.{Kind}
use Rattle.token.specs.declared.kind.Kind.TheVariants.{DotDot, GtGt, LtLt}

-- a row that does not fit
row_no : (v w x c d e : ℕ) → (v ≡ c → w ≡ d → ⊥) → both (eqb v c) (both (eqb w d) (eqb x e)) ≡ false
row_no v w x c d e h = split_eq v c (λ i. split_eq w d (λ j. absurd (h i j)) (λ j. rw (ne_eqb w d j) (both_false (eqb v c)))) (λ i. rw (ne_eqb v c i))

-- each operator of three characters begins with one of two
pub no_three : (v w x : ℕ) → look_two twos v w ≡ None → look_three threes v w x ≡ None
unfolding look_two look_three twos threes
no_three v w x h =
    rw (
      row_no v w x 46 46 61 (λ i j. never (let z : ◌≡◌ {A = (Option Kind)} (Some DotDot) None = known 46 46 i j in cc)),
      row_no v w x 60 60 61 (λ i j. never (let z : ◌≡◌ {A = (Option Kind)} (Some LtLt) None = known 60 60 i j in cc)),
      row_no v w x 62 62 61 (λ i j. never (let z : ◌≡◌ {A = (Option Kind)} (Some GtGt) None = known 62 62 i j in cc)),
    )
  where
    known : (c d : ℕ) → v ≡ c → w ≡ d → look_two twos c d ≡ None
    known c d i j = sym (λ k. look_two twos (i k) (j k)) ∙ h

module _ (s : List ℕ) (v at : ℕ) where
  pub op_end : rest s at ≡ [] → find_one v at ≡ operator_of width v (rest s at) at
  unfolding operator_of find_two find_three
  op_end e = rw e

  module _ (w n : ℕ) (t : Step s at w n) where
    three_none : look_two twos v w ≡ None → (cs : List ℕ) (p : ℕ) → find_three width v (w ∷ cs) p ≡ None
    unfolding find_three
    three_none h [] p = refl
    three_none h (x ∷ cs) p = rw (no_three v w x h)

    pub op_one : look_two twos v w ≡ None → find_one v at ≡ operator_of width v (rest s at) at
    unfolding operator_of find_two
    op_one h = rw (t.here, three_none h (rest s n) at, h)

    pub op_two_end : (k : Kind) → look_two twos v w ≡ Some k → rest s n ≡ [] → Some (operator k n) ≡ operator_of width v (rest s at) at
    unfolding operator_of find_two find_three
    op_two_end k h e = rw (t.here, e, h) (ap (λ (q : ℕ). Some (operator k q)) t.next)

    module _ (x m : ℕ) (u : Step s n x m) where
      pub op_two : (k : Kind) → look_two twos v w ≡ Some k → look_three threes v w x ≡ None → Some (operator k n) ≡ operator_of width v (rest s at) at
      unfolding operator_of find_two find_three
      op_two k h i = rw (t.here, u.here, i, h) (ap (λ (q : ℕ). Some (operator k q)) t.next)

      pub op_three : (k : Kind) → look_three threes v w x ≡ Some k → Some (operator k m) ≡ operator_of width v (rest s at) at
      unfolding operator_of find_three
      op_three k i = rw (t.here, u.here, i) (ap (λ (q : ℕ). Some (operator k q)) (u.next ∙ ap (λ (q : ℕ). q + width x) t.next))
