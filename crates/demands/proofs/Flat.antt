-- Scalars painted: in parts, all of them, none of them. Assumes nothing.
use Prim.Native.Nat.{ℕ, ◌+◌, ◌≤◌, ◌<◌}
use mathlib.Core.Path.{◌≡◌, refl, sym, ap, ◌∙◌}
use mathlib.Core.List.{List, [], ◌∷◌, ◌++◌, append_assoc}
use mathlib.Core.Bool.{Bool, true, false}
use native.Mathlib.Omega.{arith}
use lib.ListN.{replicate-append-replicate}
use Rattle.demands.specs.Scalars.{Even, flat}
use Rattle.families.proofs.Ends.{after_append, after_le}
use Rattle.families.proofs.Shown.{after_shift, after_xs}
use Rattle.families.specs.Places.{place_after}
use Rattle.families.specs.Shape.{xs}
use Rattle.laws.proofs.Cases.{split}
use Rattle.text.proofs.Decode.{width_pos}
use Rattle.text.specs.Utf8.{width}

pub wide_x : width 120 ≡ 1
unfolding width
wide_x = refl

module _ (m : ℕ → Bool) where
  pub flat_append : (a b : List ℕ) (p : ℕ) → flat m (a ++ b) p ≡ flat m a p ++ flat m b (place_after width a p)
  unfolding flat place_after
  flat_append [] b p = refl
  flat_append (v ∷ a) b p =
      let q = p + width v in
      split (m p)
      (λ h. rw h (ap (λ (l : List ℕ). xs (width v) ++ l) (flat_append a b q) ∙ sym (append_assoc (xs (width v)) (flat m a q) (flat m b (place_after width a q)))))
      (λ h. rw h (ap (λ (l : List ℕ). v ∷ l) (flat_append a b q)))

  -- painting moves no place
  pub flat_after : (a : List ℕ) (p q : ℕ) → place_after width (flat m a p) q ≡ place_after width a q
  unfolding flat place_after
  flat_after [] p q = refl
  flat_after (v ∷ a) p q =
      let x = flat m a (p + width v) in
      split (m p)
      (λ h. rw h (after_append width (xs (width v)) x q ∙ ap (place_after width x) (after_xs width wide_x (width v) q) ∙ flat_after a (p + width v) (q + width v)))
      (λ h. rw h (flat_after a (p + width v) (q + width v)))

  -- m is b from p to the place after the scalars a
  abbrev pub Const : List ℕ → ℕ → Bool → Type 0
  Const a p b = (i : ℕ) → p ≤ i → i < place_after width a p → m i ≡ b

  here : (v : ℕ) (a : List ℕ) (p : ℕ) (b : Bool) → Const (v ∷ a) p b → m p ≡ b
  unfolding place_after
  here v a p b h = h p (omega arith) (let l = after_le width a (p + width v) in let w = width_pos v in omega arith)

  later : (v : ℕ) (a : List ℕ) (p : ℕ) (b : Bool) → Const (v ∷ a) p b → Const a (p + width v) b
  unfolding place_after
  later v a p b h i k l = h i (omega arith) l

  pub flat_none : (a : List ℕ) (p : ℕ) → Const a p false → flat m a p ≡ a
  unfolding flat
  flat_none [] p h = refl
  flat_none (v ∷ a) p h = rw (here v a p false h) (ap (λ (l : List ℕ). v ∷ l) (flat_none a (p + width v) (later v a p false h)))

  pub flat_all : (a : List ℕ) (p : ℕ) → Const a p true → flat m a p ≡ xs (place_after width a 0)
  unfolding flat place_after
  flat_all [] p h = refl
  flat_all (v ∷ a) p h =
      let e : width v + place_after width a 0 ≡ place_after width a (0 + width v) = let z = after_shift width a (0 + width v) in omega arith in
      rw (here v a p true h)
      (ap (λ (l : List ℕ). xs (width v) ++ l) (flat_all a (p + width v) (later v a p true h)) ∙ replicate-append-replicate {A = ℕ} (width v) (place_after width a 0) 120 ∙ ap xs e)

  pub even_const : (a : List ℕ) (p : ℕ) (b : Bool) → Const a p b → Even m a p
  unfolding place_after
  even_const [] p b h = tt
  even_const (v ∷ a) p b h =
      ((λ i k. h (p + i) (omega arith) (let l = after_le width a (p + width v) in omega arith) ∙ sym (here v a p b h)), even_const a (p + width v) b (later v a p b h))

  pub even_append : (a b : List ℕ) (p : ℕ) → Even m a p → Even m b (place_after width a p) → Even m (a ++ b) p
  unfolding place_after
  even_append [] b p h k = k
  even_append (v ∷ a) b p h k = (h.0, even_append a b (p + width v) h.1 k)
