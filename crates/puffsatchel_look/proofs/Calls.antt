-- Any two results that a call's promise allows are equal: the result, the record, the state and the store. Assumes nothing.
use Prim.Native.Nat.{ℕ}
use mathlib.Core.Path.{◌≡◌}
use mathlib.Core.List.{List}
use lib.Seq.{sets}
use lib.ListN.{length}
use Rattle.ahead.proofs.Lent.{lent}
use Rattle.ahead.specs.View.{view_of}
use Rattle.ahead.specs.declared.Ahead.{Ahead}
use Rattle.laws.proofs.Determined.{determined}
use Rattle.look_answers.specs.Told.{number_told, words_told}
use Rattle.looks.specs.Calls.{Turn}

-- what a call with this turn promises of its result, its record and the state; and of its store, if it has one
abbrev pub Shown : Turn → ℕ → List ℕ → Ahead → Type 0
Shown t r v a = (r ≡ number_told t.answer) × (v ≡ words_told t.answer) × (view_of a ≡ t.state)

abbrev pub Emitted : Turn → List ℕ → ℕ → List ℕ → Ahead → List ℕ → Type 0
Emitted t out r v a w = (r ≡ number_told t.answer) × (v ≡ words_told t.answer) × (view_of a ≡ t.state) × (w ≡ sets out 0 t.written)

module _ (t : Turn) (r q : ℕ) (v x : List ℕ) (a b : Ahead) (i : length a.nums ≡ 6) (j : length b.nums ≡ 6) where
  pub shown_determined : Shown t r v a → Shown t q x b → (r ≡ q) × (v ≡ x) × (a ≡ b)
  shown_determined h k = (determined r q h.0 k.0, determined v x h.1 k.1, lent a b i j (determined (view_of a) (view_of b) h.2 k.2))

  pub emitted_determined : (out w y : List ℕ) → Emitted t out r v a w → Emitted t out q x b y → (r ≡ q) × (v ≡ x) × (a ≡ b) × (w ≡ y)
  emitted_determined out w y h k =
      (determined r q h.0 k.0, determined v x h.1 k.1, lent a b i j (determined (view_of a) (view_of b) h.2 k.2), determined w y h.3 k.3)
