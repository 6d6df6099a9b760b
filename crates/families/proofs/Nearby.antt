-- Laws of what is near, and of a front with near scalars after it. Assumes nothing.
use Prim.Native.Nat.{ℕ}
use mathlib.Core.Path.{◌≡◌, refl, sym, ap}
use mathlib.Core.List.{List, [], ◌∷◌, ◌++◌}
use lib.Dec.{eqb}
use Rattle.choice.specs.Rule.{next_is}
use Rattle.classes.specs.Digits.{is_digit}
use Rattle.families.specs.Near.{Near, SameFirst}
use Rattle.laws.proofs.Cases.{never}
use Rattle.readers.specs.Numbers.{begins_digit}

pub near_head : (x y : List ℕ) → Near x y → SameFirst x y
near_head [] [] h = tt
near_head [] (w ∷ y) h = absurd h
near_head (v ∷ x) [] h = absurd h
near_head (v ∷ x) (w ∷ y) h = h.0

pub head_append : (f x y : List ℕ) → Near x y → SameFirst (f ++ x) (f ++ y)
head_append [] x y h = near_head x y h
head_append (v ∷ f) x y h = refl

pub near_append : (f x y : List ℕ) → Near x y → Near (f ++ x) (f ++ y)
near_append [] x y h = h
near_append (v ∷ f) x y h = (refl, λ e. head_append f x y h)

pub near_same : (x : List ℕ) → Near x x
near_same [] = tt
near_same (v ∷ []) = (refl, λ e. tt)
near_same (v ∷ (w ∷ x)) = (refl, λ e. refl)

-- two scalars alike are near, whatever they are
pub near_two : (v w : ℕ) (x y : List ℕ) → Near (v ∷ (w ∷ x)) (v ∷ (w ∷ y))
near_two v w x y = (refl, λ e. refl)

-- nothing is near nothing only
pub near_end : (x y : List ℕ) → x ≡ [] → Near x y → y ≡ []
near_end [] [] e h = refl
near_end [] (w ∷ y) e h = absurd h
near_end (v ∷ x) y e h = never (cc)

-- what asks for one scalar answers alike
pub next_head : (c : ℕ) (x y : List ℕ) → SameFirst x y → next_is c y ≡ next_is c x
next_head c [] [] h = refl
next_head c [] (w ∷ y) h = absurd h
next_head c (v ∷ x) [] h = absurd h
next_head c (v ∷ x) (w ∷ y) h = ap (λ (z : ℕ). eqb z c) (sym h)

pub digit_head : (x y : List ℕ) → SameFirst x y → begins_digit y ≡ begins_digit x
digit_head [] [] h = refl
digit_head [] (w ∷ y) h = absurd h
digit_head (v ∷ x) [] h = absurd h
digit_head (v ∷ x) (w ∷ y) h = ap is_digit (sym h)
