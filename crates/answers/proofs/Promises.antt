-- What is told of an answer is told of its definition; and any two results that a call's promise allows are equal. Assumes nothing.
use Prim.Native.Nat.{ℕ}
use mathlib.Core.Path.{◌≡◌, ap, ◌∙◌}
use mathlib.Core.List.{List}
use Rattle.answers.specs.declared.Told.{Told}
use Rattle.laws.proofs.Determined.{determined, determined_both}

pub tells : (r : ℕ) (l : List ℕ) (t u : Told) → (r ≡ t.number) × (l ≡ t.words) → t ≡ u → (r ≡ u.number) × (l ≡ u.words)
tells r l t u h e = (h.0 ∙ ap (λ (x : Told). x.number) e, h.1 ∙ ap (λ (x : Told). x.words) e)

-- a promise of what is told, and one of the lent memory beside it
abbrev pub Told-by : Told → ℕ → List ℕ → Type 0
Told-by t r v = (r ≡ t.number) × (v ≡ t.words)

abbrev pub Left-by : Told → List ℕ → ℕ → List ℕ → List ℕ → Type 0
Left-by t l r o v = (r ≡ t.number) × (o ≡ l) × (v ≡ t.words)

pub told_determined : (t : Told) (r q : ℕ) (v w : List ℕ) → Told-by t r v → Told-by t q w → (r ≡ q) × (v ≡ w)
told_determined t r q v w h k = determined_both r q v w h k

pub left_determined : (t : Told) (l : List ℕ) (r q : ℕ) (o p v w : List ℕ) → Left-by t l r o v → Left-by t l q p w → (r ≡ q) × (o ≡ p) × (v ≡ w)
left_determined t l r q o p v w h k = (determined r q h.0 k.0, determined o p h.1 k.1, determined v w h.2 k.2)
