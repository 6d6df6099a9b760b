-- The matter of a number that is no finding's. Assumes nothing.
use Rattle.std.specs.Prelude.{ℕ}
use mathlib.Core.Path.{◌≡◌, sym, ap, ◌∙◌}
use borrow.Author.Tests.{ne_eqb}
use Rattle.report.specs.Matters.{matter_of}
use Rattle.report.specs.declared.finding.Matter.TheVariants.{Refusal}
use Rattle.token.proofs.Reasons.{reason_one}
use Rattle.token.specs.Reads.{reason_number}
use Rattle.token.specs.declared.reason.Reason.{Reason}

pub matter_none : (n : ℕ) (a b : Reason) → reason_number a ≡ n → reason_number b ≡ n → (n ≡ 60 → ⊥) → (n ≡ 61 → ⊥) → (n ≡ 62 → ⊥) → (n ≡ 63 → ⊥) → (n ≡ 64 → ⊥) → (n ≡ 65 → ⊥) → (n ≡ 160 → ⊥) → (n ≡ 161 → ⊥) → Refusal a ≡ matter_of n b
unfolding matter_of
matter_none n a b e f h60 h61 h62 h63 h64 h65 h160 h161 =
    ap Refusal (reason_one a b (e ∙ sym f))
    ∙ rw (ne_eqb n 60 h60, ne_eqb n 61 h61, ne_eqb n 62 h62, ne_eqb n 63 h63, ne_eqb n 64 h64, ne_eqb n 65 h65, ne_eqb n 160 h160, ne_eqb n 161 h161)
