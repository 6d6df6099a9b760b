-- Any two results that a call's promise allows are equal. Assumes nothing.
use Prim.Native.Nat.{ℕ}
use Rattle.std.specs.Prelude.{Option}
use mathlib.Core.Path.{◌≡◌}
use mathlib.Core.List.{List}
use denote.Ref.{Bor}
use Rattle.laws.proofs.Determined.{determined, determined_both}
use Rattle.source.specs.Reader.{moved_of, new_of, next_scalar_of, peek2_of, peek_of, pos_of}
use Rattle.source.specs.declared.Source.{Source}
use Rattle.text.specs.declared.utf8.Scalar.{Scalar}

pub new_determined : (s : Bor (List ℕ)) (r q : Source) → r ≡ new_of s → q ≡ new_of s → r ≡ q
new_determined s r q h k = determined r q h k

module _ (it : Source) where
  pub pos_determined : (r q : ℕ) → r ≡ pos_of it → q ≡ pos_of it → r ≡ q
  pos_determined r q h k = determined r q h k

  pub peek_determined : (r q : Option Scalar) → r ≡ peek_of it → q ≡ peek_of it → r ≡ q
  peek_determined r q h k = determined r q h k

  pub peek2_determined : (r q : Option Scalar) → r ≡ peek2_of it → q ≡ peek2_of it → r ≡ q
  peek2_determined r q h k = determined r q h k

  pub next_determined : (r q : Option Scalar) (v w : Source) → (v ≡ moved_of it) × (r ≡ next_scalar_of it) → (w ≡ moved_of it) × (q ≡ next_scalar_of it) → (v ≡ w) × (r ≡ q)
  next_determined r q v w h k = determined_both v w r q h k
