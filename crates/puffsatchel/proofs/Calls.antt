-- Any two results that a call's promise allows are equal. Assumes nothing.
use Prim.Native.Nat.{ℕ}
use mathlib.Core.Path.{◌≡◌}
use mathlib.Core.List.{List}
use Rattle.answers.proofs.Promises.{Left-by, Told-by, left_determined, told_determined}
use Rattle.laws.proofs.Determined.{determined}
use Rattle.puffsatchel.specs.Calls.{findings_leaves, findings_tells, list_leaves, list_tells, next_tells, outline_leaves, outline_tells, read_tells, test_tells, version}

pub version_determined : (r q : ℕ) → r ≡ version → q ≡ version → r ≡ q
version_determined r q h k = determined r q h k

pub test_determined : (s : List ℕ) (r q : ℕ) (v w : List ℕ) → Told-by (test_tells s) r v → Told-by (test_tells s) q w → (r ≡ q) × (v ≡ w)
test_determined s r q v w = told_determined (test_tells s) r q v w

module _ (n : ℕ) (s : List ℕ) (r q : ℕ) (v w : List ℕ) where
  pub read_determined : (at : ℕ) → Told-by (read_tells n s at) r v → Told-by (read_tells n s at) q w → (r ≡ q) × (v ≡ w)
  read_determined at = told_determined (read_tells n s at) r q v w

  pub next_determined : (at : ℕ) → Told-by (next_tells n s at) r v → Told-by (next_tells n s at) q w → (r ≡ q) × (v ≡ w)
  next_determined at = told_determined (next_tells n s at) r q v w

  module _ (l o p : List ℕ) where
    pub list_determined : Left-by (list_tells n s l) (list_leaves n s l) r o v → Left-by (list_tells n s l) (list_leaves n s l) q p w → (r ≡ q) × (o ≡ p) × (v ≡ w)
    list_determined = left_determined (list_tells n s l) (list_leaves n s l) r q o p v w

    pub outline_determined : Left-by (outline_tells n s l) (outline_leaves n s l) r o v → Left-by (outline_tells n s l) (outline_leaves n s l) q p w → (r ≡ q) × (o ≡ p) × (v ≡ w)
    outline_determined = left_determined (outline_tells n s l) (outline_leaves n s l) r q o p v w

    pub findings_determined : Left-by (findings_tells n s l) (findings_leaves n s l) r o v → Left-by (findings_tells n s l) (findings_leaves n s l) q p w → (r ≡ q) × (o ≡ p) × (v ≡ w)
    findings_determined = left_determined (findings_tells n s l) (findings_leaves n s l) r q o p v w
