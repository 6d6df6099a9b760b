-- Any two results that a call's promise allows are equal: one law, and a line for each public call of a user's. Assumes nothing.
use Rattle.std.specs.Prelude.{Option}
use Rattle.token.specs.Reads.{Read}
use Rattle.token.specs.Reads.{Tested}
use Prim.Native.Nat.{ℕ}
use mathlib.Core.Path.{◌≡◌}
use mathlib.Core.List.{List}
use mathlib.Core.Bool.{Bool}
use lib.Seq.{sets}
use lib.ListN.{length}
use Rattle.laws.proofs.Determined.{determined, determined_both}
use Rattle.lexer.specs.Next.{next_at, past_start_at, read_at}
use Rattle.listing.specs.Listing.{list_of, stored_of, Listed}
use Rattle.outline.specs.Outline.{outline_of, outline_written}
use Rattle.readers.specs.declared.reading.Reading.{Reading}
use Rattle.source_test.specs.Source.{boundary, position_test, source_test}
use Rattle.text.specs.Utf8.{scalar_at, second_at}
use Rattle.text.specs.declared.utf8.Scalar.{Scalar}

module _ (s : List ℕ) where
  pub test_source_determined : (r q : Tested) → r ≡ source_test s → q ≡ source_test s → r ≡ q
  test_source_determined r q h k = determined r q h k

  module _ (at : ℕ) where
    pub scalar_at_determined : (r q : Option Scalar) → r ≡ scalar_at s at → q ≡ scalar_at s at → r ≡ q
    scalar_at_determined r q h k = determined r q h k

    pub second_at_determined : (r q : Option Scalar) → r ≡ second_at s at → q ≡ second_at s at → r ≡ q
    second_at_determined r q h k = determined r q h k

    pub is_boundary_determined : (r q : Bool) → r ≡ boundary s at → q ≡ boundary s at → r ≡ q
    is_boundary_determined r q h k = determined r q h k

    pub test_position_determined : (r q : Tested) → r ≡ position_test s at → q ≡ position_test s at → r ≡ q
    test_position_determined r q h k = determined r q h k

    pub next_determined : (g : Reading) (r q : Read) → r ≡ next_at g s at → q ≡ next_at g s at → r ≡ q
    next_determined g r q h k = determined r q h k

    pub later_determined : (g : Reading) (r q : Read) → r ≡ past_start_at g s at → q ≡ past_start_at g s at → r ≡ q
    later_determined g r q h k = determined r q h k

    pub read_determined : (g : Reading) (r q : Read) → r ≡ read_at g s at → q ≡ read_at g s at → r ≡ q
    read_determined g r q h k = determined r q h k

  module _ (g : Reading) (out : List ℕ) where
    pub list_determined : (r q : Listed) (v w : List ℕ) → (r ≡ list_of g s (length out)) × (v ≡ sets out 0 (stored_of g s (length out)))
        → (q ≡ list_of g s (length out)) × (w ≡ sets out 0 (stored_of g s (length out))) → (r ≡ q) × (v ≡ w)
    list_determined r q v w h k = determined_both r q v w h k

    pub outline_determined : (r q : Tested) (v w : List ℕ) → (r ≡ outline_of g s (length out)) × (v ≡ sets out 0 (outline_written g s (length out)))
        → (q ≡ outline_of g s (length out)) × (w ≡ sets out 0 (outline_written g s (length out))) → (r ≡ q) × (v ≡ w)
    outline_determined r q v w h k = determined_both r q v w h k
