-- The codes of findings by number. Assumes nothing.
use Rattle.std.specs.Prelude.{Err}
use Prim.Native.Nat.{ℕ}
use mathlib.Core.Path.{◌≡◌}
use borrow.Author.Tests.{ne_eqb}
use Rattle.findings.specs.Findings.{code_of}

-- a number other than the six
pub code_none : (n : ℕ) → (n ≡ 60 → ⊥) → (n ≡ 61 → ⊥) → (n ≡ 62 → ⊥) → (n ≡ 63 → ⊥) → (n ≡ 64 → ⊥) → (n ≡ 65 → ⊥) → Err (record { 0 = n }) ≡ code_of n
unfolding code_of
code_none n a b c d e f = rw (ne_eqb n 60 a, ne_eqb n 61 b, ne_eqb n 62 c, ne_eqb n 63 d, ne_eqb n 64 e, ne_eqb n 65 f)
