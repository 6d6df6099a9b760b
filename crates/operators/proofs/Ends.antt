-- An operator ends at the place of one of the scalars that it was given, or after the last. Assumes nothing.
use Rattle.std.specs.Prelude.{None, Option, Some}
use Prim.Native.Nat.{ℕ, ◌+◌}
use mathlib.Core.Path.{◌≡◌, ap, subst}
use mathlib.Core.List.{List, [], ◌∷◌}
use mathlib.Core.Logic.{inr}
use Rattle.laws.proofs.Cases.{never}
use Rattle.operators.specs.Operators.{find_one, find_three, find_two, found_at, look_one, look_three, look_two, ones, operator, operator_of, or_else, threes, twos}
use Rattle.operators.specs.declared.Operator.{Operator}
use Rattle.readers.proofs.Lands.{Lands, lands_here}
use Rattle.readers.specs.Rules.{Rules}
use Rattle.token.specs.declared.kind.Kind.{Kind}

-- an operator's parts, of two that are equal
pub same_kind : (j k : Kind) (q e : ℕ) → Some (operator j q) ≡ Some (operator k e) → j ≡ k
same_kind j k q e h = let z : operator j q ≡ operator k e = cc in ap (λ (o : Operator). o.kind) z

pub same_end : (j k : Kind) (q e : ℕ) → Some (operator j q) ≡ Some (operator k e) → q ≡ e
same_end j k q e h = let z : operator j q ≡ operator k e = cc in ap (λ (o : Operator). o.end) z

pub found_kind : (m : Option Kind) (q : ℕ) (k : Kind) (e : ℕ) → found_at m q ≡ Some (operator k e) → m ≡ Some k
found_kind (Some j) q k e h = ap Some (same_kind j k q e h)
found_kind None q k e h = never (cc)

module _ (R : Rules) where
  found_lands : (m : Option Kind) (q : ℕ) (k : Kind) (e : ℕ) → found_at m q ≡ Some (operator k e) → q ≡ e
  found_lands (Some j) q k e h = same_end j k q e h
  found_lands None q k e h = never (cc)

  -- which of the three lengths an operator has
  pub by_length : {X : Type 0} (f g h : Option Operator) (k : Kind) (e : ℕ) → or_else f (or_else g h) ≡ Some (operator k e) → (f ≡ Some (operator k e) → X) → (g ≡ Some (operator k e) → X) → (h ≡ Some (operator k e) → X) → X
  by_length (Some o) g h k e q x y z = x q
  by_length None (Some o) h k e q x y z = y q
  by_length None None h k e q x y z = z q

  three_lands : (v : ℕ) (cs : List ℕ) (p : ℕ) (k : Kind) (e : ℕ) → find_three R.stride v cs p ≡ Some (operator k e) → Lands R cs p e
  unfolding find_three
  three_lands v [] p k e h = never (cc)
  three_lands v (w ∷ []) p k e h = never (cc)
  three_lands v (w ∷ (x ∷ cs)) p k e h =
      let q = found_lands (look_three threes v w x) (p + R.stride w + R.stride x) k e h in
      inr (inr (subst (λ (z : ℕ). Lands R cs (p + R.stride w + R.stride x) z) q (lands_here R cs (p + R.stride w + R.stride x))))

  two_lands : (v : ℕ) (cs : List ℕ) (p : ℕ) (k : Kind) (e : ℕ) → find_two R.stride v cs p ≡ Some (operator k e) → Lands R cs p e
  unfolding find_two
  two_lands v [] p k e h = never (cc)
  two_lands v (w ∷ cs) p k e h =
      let q = found_lands (look_two twos v w) (p + R.stride w) k e h in
      inr (subst (λ (z : ℕ). Lands R cs (p + R.stride w) z) q (lands_here R cs (p + R.stride w)))

  pub operator_lands : (v : ℕ) (cs : List ℕ) (p : ℕ) (k : Kind) (e : ℕ) → operator_of R.stride v cs p ≡ Some (operator k e) → Lands R cs p e
  unfolding operator_of find_one
  operator_lands v cs p k e h =
      by_length (find_three R.stride v cs p) (find_two R.stride v cs p) (find_one v p) k e h (λ q. three_lands v cs p k e q) (λ q. two_lands v cs p k e q)
      (λ q. subst (λ (z : ℕ). Lands R cs p z) (found_lands (look_one ones v) p k e q) (lands_here R cs p))
