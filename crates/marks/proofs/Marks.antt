-- At most two characters stay before an inside: one computed test over all kinds. Assumes nothing.
use Prim.Native.Nat.{ℕ, ◌≤◌}
use mathlib.Core.Path.{◌≡◌, refl}
use lib.Dec.{leb}
use lib.ListN.{length}
use borrow.Author.Tests.{leb-true}
use Rattle.laws.specs.Tables.{every_below}
use Rattle.marks.specs.Marks.{open_mark}
use Rattle.numbers.proofs.Inverse.{every_kind}
use Rattle.numbers.specs.Kinds.{kinds, number_of}
use Rattle.token.specs.declared.kind.Kind.{Kind}

pub open_few : (k : Kind) (n : ℕ) → n ≡ number_of k → length (open_mark k) ≤ 2
unfolding open_mark kinds every_below number_of
open_few k n e = leb-true (length (open_mark k)) 2 (every_kind (λ k. leb (length (open_mark k)) 2) refl refl k)
