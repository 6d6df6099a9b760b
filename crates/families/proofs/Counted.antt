-- A reader whose places count scalars reads as one whose places are those of any sane rules. Assumes nothing.
use Prim.Native.Nat.{ℕ, ◌+◌}
use mathlib.Core.Path.{◌≡◌, refl, sym, ap, ◌∙◌, subst}
use mathlib.Core.List.{List, [], ◌∷◌, ◌++◌, append_assoc}
use native.Mathlib.Omega.{arith}
use lib.Seq.{take_at}
use lib.ListN.{length, length-append, take}
use Rattle.families.proofs.Ends.{after_append}
use Rattle.families.proofs.Moves.{token_moves}
use Rattle.families.specs.Moves.{Moves, counting, map_read, place_of}
use Rattle.families.specs.Places.{place_after}
use Rattle.families.specs.Sane.{Sane}
use Rattle.readers.specs.Rules.{Rules}
use Rattle.templates.specs.Body.{token_of}

module _ (R : Rules) where
  place_next : (a : List ℕ) (v : ℕ) (cs : List ℕ) → place_of R (a ++ (v ∷ cs)) (length a + 1) ≡ place_of R (a ++ (v ∷ cs)) (length a) + R.stride v
  unfolding place_of place_after
  place_next a v cs =
      let l : length (a ++ (v ∷ [])) ≡ length a + 1 = length-append a (v ∷ []) in
      ap (λ (z : List ℕ). place_after R.stride (take (length a + 1) z) 0) (sym (append_assoc a (v ∷ []) cs))
      ∙ ap (λ (z : List ℕ). place_after R.stride z 0) (take_at (a ++ (v ∷ [])) cs (length a + 1) l) ∙ after_append R.stride a (v ∷ []) 0
      ∙ ap (λ (z : List ℕ). place_after R.stride z 0 + R.stride v) (sym (take_at a (v ∷ cs) (length a) refl))

  pub count_moves : (a cs : List ℕ) → Moves (counting R) R.stride (place_of R (a ++ cs)) cs (length a)
  count_moves a [] = tt
  count_moves a (v ∷ cs) =
      let l : length (a ++ (v ∷ [])) ≡ length a + 1 = length-append a (v ∷ []) in
      (place_next a v cs, subst (λ (z : List ℕ × ℕ). Moves (counting R) R.stride (place_of R z.0) cs z.1) (λ i. (append_assoc a (v ∷ []) cs i, l i)) (count_moves (a ++ (v ∷ [])) cs))

  -- at the place of any scalar: those before it are a
  pub token_counted : Sane R → (d : ℕ) (a cs : List ℕ) → token_of R d cs (place_after R.stride a 0) ≡ map_read (place_of R (a ++ cs)) (token_of (counting R) d cs (length a))
  unfolding place_of
  token_counted sane d a cs =
      ap (λ (z : List ℕ). token_of R d cs (place_after R.stride z 0)) (sym (take_at a cs (length a) refl))
      ∙ token_moves (counting R) R.stride (place_of R (a ++ cs)) (record { steps = λ v. omega arith; tick = sane.tick }) sane d cs (length a) (count_moves a cs)
