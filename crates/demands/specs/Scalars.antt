-- No rule of document 01, for theorems: painting by scalars, where a painted one becomes as many x as it has bytes.
use Rattle.std.specs.Prelude.{ℕ, ◌+◌, ◌<◌, ◌≡◌, List, [], ◌∷◌, ◌++◌, Bool}
use Rattle.families.specs.Shape.{xs}
use Rattle.laws.specs.Bools.{pick}
use Rattle.text.specs.Utf8.{width}

-- x over the scalars at the places that m picks; the first of the scalars stands at p
unfoldable pub flat : (ℕ → Bool) → List ℕ → ℕ → List ℕ
flat m [] p = []
flat m (v ∷ cs) p = pick (m p) (xs (width v) ++ flat m cs (p + width v)) (v ∷ flat m cs (p + width v))

-- m picks all bytes of a scalar or none
abbrev pub Even : (ℕ → Bool) → List ℕ → ℕ → Type 0
Even m [] p = Unit
Even m (v ∷ cs) p = ((i : ℕ) → i < width v → m (p + i) ≡ m p) × Even m cs (p + width v)
