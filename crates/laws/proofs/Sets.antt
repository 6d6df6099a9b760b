-- Two stretches stored one after the other are one. Assumes nothing.
use Prim.Native.Nat.{ℕ, suc, ◌+◌}
use mathlib.Core.Path.{◌≡◌, ap}
use mathlib.Core.List.{List, [], ◌∷◌, ◌++◌}
use native.Mathlib.Omega.{arith}
use lib.Seq.{sets}
use lib.ListN.{length, set}

pub sets_append : (out v w : List ℕ) (i j : ℕ) → i + length v ≡ j → sets (sets out i v) j w ≡ sets out i (v ++ w)
sets_append out [] w i j e = let z : j ≡ i = omega arith in ap (λ (k : ℕ). sets out k w) z
sets_append out (a ∷ v) w i j e = sets_append (set out i a) v w (suc i) j (omega arith)
