-- What begins at a place, by the scalar there. Assumes nothing.
use Prim.Native.Nat.{ℕ}
use mathlib.Core.Path.{◌≡◌, sym, ap}
use mathlib.Core.List.{List, []}
use Rattle.escapes.specs.declared.Escape.TheVariants.{Skipped}
use Rattle.items.specs.Items.{item_of}
use Rattle.items.specs.declared.Form.{Form}
use Rattle.runs.specs.Runs.{begins_of}
use Rattle.text.proofs.Decode.{Step}
use Rattle.text.specs.Utf8.{rest}

module _ (form : Form) (s : List ℕ) (at : ℕ) where
  pub begins_end : rest s at ≡ [] → Skipped at ≡ begins_of form (rest s at) at
  unfolding begins_of
  begins_end e = rw e

  pub begins_item : (v n : ℕ) → Step s at v n → item_of form v (rest s n) n ≡ begins_of form (rest s at) at
  unfolding begins_of
  begins_item v n t = sym (rw t.here (ap (item_of form v (rest s n)) (sym t.next)))
