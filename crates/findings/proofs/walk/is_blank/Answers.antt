use Prim.Native.Nat.{ℕ}
use mathlib.Core.Path.{ap}
use lib.Dec.{leb}
use Rattle.findings.proofs.walk.is_blank.Goals as goal

pub returns : goal.returns
returns c = ap (λ (n : ℕ). leb n 4) c.number_of.ensures
