-- No rule of document 01, for theorems: what may follow a token for it to be read the same.
use Rattle.std.specs.Prelude.{ℕ, ◌≡◌, List, [], ◌∷◌, ◌++◌, true}
use Rattle.families.specs.Places.{place_after}
use Rattle.readers.specs.Numbers.{asks_digit}
use Rattle.readers.specs.Rules.{Rules}
use Rattle.token.specs.Reads.{reached_of, Read}

-- alike as far as one scalar
abbrev pub SameFirst : List ℕ → List ℕ → Type 0
SameFirst [] [] = Unit
SameFirst [] (w ∷ y) = ⊥
SameFirst (v ∷ x) [] = ⊥
SameFirst (v ∷ x) (w ∷ y) = v ≡ w

-- alike as far as any reader looks: one scalar, and where that asks for a digit (a `.`, a sign) one more
abbrev pub Near : List ℕ → List ℕ → Type 0
Near [] [] = Unit
Near [] (w ∷ y) = ⊥
Near (v ∷ x) [] = ⊥
Near (v ∷ x) (w ∷ y) = (v ≡ w) × (asks_digit v ≡ true → SameFirst x y)

-- a reader whose answer stays the same with other scalars after the place that it reached, if they are near
abbrev pub Local : Rules → (List ℕ → ℕ → Read) → Type 0
Local R next = (f x y : List ℕ) (p : ℕ) → reached_of (next (f ++ x) p) ≡ place_after R.stride f p → Near x y → next (f ++ y) p ≡ next (f ++ x) p
