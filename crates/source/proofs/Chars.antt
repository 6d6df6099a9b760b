-- The reader goes over its scalars as the Rust's SourceIter goes over `chars()` from its cursor on: peek is the first of them, peek2 is peek after next,
-- next moves by the scalar's own bytes, and at the end every call answers none and the reader stays. Assumes nothing.
use Prim.Native.Nat.{ℕ, ◌+◌}
use Rattle.std.specs.Prelude.{Option, Some, None}
use mathlib.Core.Path.{◌≡◌, sym, ap, ◌∙◌}
use mathlib.Core.List.{List, [], ◌∷◌}
use Rattle.source.specs.Reader.{after_scalar, chars_of, moved_of, next_scalar_of, peek2_of, peek_of}
use Rattle.source.specs.declared.Source.{Source}
use Rattle.text.proofs.Decode.{none_scalar, rest_tail, second_none, second_one, step_one}
use Rattle.text.specs.Utf8.{head_at, rest, scalar_at, scalar_of, width}
use Rattle.text.specs.declared.utf8.Scalar.{Scalar}

module _ (it : Source) where
  pub at_the_end : chars_of it ≡ [] → (peek_of it ≡ None) × (peek2_of it ≡ None) × (next_scalar_of it ≡ None) × (moved_of it ≡ it)
  at_the_end p =
      let s = it.src.now in
      let none = sym (none_scalar s it.at p) in
      (none, sym (second_none s it.at p), none, (λ i. record { src = it.src; at = after_scalar (none i) it.at }))

  module _ (v : ℕ) (cs : List ℕ) (p : chars_of it ≡ v ∷ cs) where
    pub first_char : peek_of it ≡ Some (scalar_of v (it.at + width v))
    unfolding scalar_at head_at
    first_char = ap (λ (l : List ℕ). head_at l it.at) p

    pub moves_by_width : (moved_of it).at ≡ it.at + width v
    moves_by_width = ap (λ (x : Option Scalar). after_scalar x it.at) first_char

    pub then_chars : chars_of (moved_of it) ≡ cs
    then_chars = ap (rest it.src.now) moves_by_width ∙ sym (rest_tail it.src.now it.at v cs (sym p))

    pub peek2_is_later_peek : peek2_of it ≡ peek_of (moved_of it)
    peek2_is_later_peek =
        let s = it.src.now in
        sym (ap (scalar_at s) moves_by_width ∙ second_one s it.at v _ (step_one s it.at v _ first_char))
