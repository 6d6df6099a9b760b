-- The rows of the code's table. Assumes nothing.
use Rattle.std.specs.Prelude.{None, Some}
use Prim.Native.Nat.{ℕ, ◌+◌, ◌*◌}
use mathlib.Core.Path.{◌≡◌, refl}
use mathlib.Core.Bool.{Bool, true, false}
use lib.Dec.{eqb}
use borrow.Author.Tests.{ne_eqb}
use Rattle.laws.specs.Bools.{pick}
use Rattle.numbers.specs.Kinds.{number_of}
use Rattle.operators.specs.Operators.{found_at, look_one, look_three, look_two, ones, operator, or_else, threes, twos}
use Rattle.quick.specs.Operators.{operator_by, packed, quick_of}
use Rattle.token.specs.declared.kind.Kind.{Kind}
use Rattle.token.specs.declared.kind.Kind.TheVariants.{Gt, GtEq, Lt, LtEq}

-- one byte more, or not
pub longer : (t : Bool) (k j : Kind) (m n : ℕ) → pick t (number_of k * 4 + m) (number_of j * 4 + n) ≡ packed (or_else (found_at (pick t (Some k) None) m) (Some (operator j n)))
longer true k j m n = refl
longer false k j m n = refl

-- one of two bytes more, or none
pub either_longer : (t u : Bool) (k l j : Kind)
    → pick t (number_of k * 4 + 2) (pick u (number_of l * 4 + 2) (number_of j * 4 + 1)) ≡ packed (or_else (found_at (pick t (Some k) (pick u (Some l) None)) 2) (Some (operator j 1)))
either_longer true u k l j = refl
either_longer false true k l j = refl
either_longer false false k l j = refl

-- `.`, `<` and `>` where they are not doubled
pub dot_one : (b c : ℕ) → (b ≡ 46 → ⊥) → 113 ≡ quick_of 46 b c
unfolding quick_of operator_by look_one look_two look_three ones twos threes number_of
dot_one b c h = rw (ne_eqb b 46 h)

pub less_one : (b c : ℕ) → (b ≡ 60 → ⊥) → pick (eqb b 61) 226 129 ≡ quick_of 60 b c
unfolding quick_of operator_by look_one look_two look_three ones twos threes number_of
less_one b c h = rw (ne_eqb b 60 h) (longer (eqb b 61) LtEq Lt 2 1)

pub more_one : (b c : ℕ) → (b ≡ 62 → ⊥) → pick (eqb b 61) 238 137 ≡ quick_of 62 b c
unfolding quick_of operator_by look_one look_two look_three ones twos threes number_of
more_one b c h = rw (ne_eqb b 62 h) (longer (eqb b 61) GtEq Gt 2 1)
