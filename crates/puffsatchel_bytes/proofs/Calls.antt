-- Any two results that a call's promise allows are equal. Assumes nothing.
use Prim.Native.Nat.{ℕ}
use mathlib.Core.Path.{◌≡◌}
use mathlib.Core.List.{List}
use Rattle.answers.proofs.Promises.{Left-by, left_determined}
use Rattle.puffsatchel_bytes.specs.Calls.{load_leaves, load_tells, store_leaves, store_tells, unescape_leaves, unescape_tells}

module _ (s : List ℕ) (r q : ℕ) (v w l o p : List ℕ) where
  pub unescape_determined : (form : ℕ) → Left-by (unescape_tells form s l) (unescape_leaves form s l) r o v → Left-by (unescape_tells form s l) (unescape_leaves form s l) q p w → (r ≡ q) × (o ≡ p) × (v ≡ w)
  unescape_determined form = left_determined (unescape_tells form s l) (unescape_leaves form s l) r q o p v w

  pub store_determined : Left-by (store_tells s l) (store_leaves s l) r o v → Left-by (store_tells s l) (store_leaves s l) q p w → (r ≡ q) × (o ≡ p) × (v ≡ w)
  store_determined = left_determined (store_tells s l) (store_leaves s l) r q o p v w

  pub load_determined : Left-by (load_tells s l) (load_leaves s l) r o v → Left-by (load_tells s l) (load_leaves s l) q p w → (r ≡ q) × (o ≡ p) × (v ≡ w)
  load_determined = left_determined (load_tells s l) (load_leaves s l) r q o p v w
