-- No rule of document 01, for theorems: places by the rules' own measure, and a cut of scalars at a place.
use Rattle.std.specs.Prelude.{ℕ, ◌+◌, ◌≡◌, List, [], ◌∷◌, ◌++◌}
use Rattle.readers.specs.Rules.{Rules}
use Rattle.readers.specs.Scan.{Stride}

-- the place after the scalars cs, the first of which stands at p
unfoldable pub place_after : Stride → List ℕ → ℕ → ℕ
place_after w [] p = p
place_after w (v ∷ cs) p = place_after w cs (p + w v)

-- scalars at p in two parts, the first of which ends at r
pub record Cut (R : Rules) (cs : List ℕ) (p r : ℕ) : Type 0 where
  pub front : List ℕ
  pub back : List ℕ
  pub whole : cs ≡ front ++ back
  pub ends : r ≡ place_after R.stride front p
