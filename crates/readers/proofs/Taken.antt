-- What a backslash takes along, and what is known where it takes nothing. Assumes nothing.
use Rattle.std.specs.Prelude.{Err, Ok, ℕ, [], ◌≡◌, List}
use mathlib.Core.Path.{ap, subst}
use Rattle.laws.proofs.Cases.{never}
use Rattle.readers.specs.Readers.{taken_of}
use Rattle.text.proofs.Decode.{Step, by_step}
use Rattle.text.specs.Utf8.{rest, width}
use Rattle.token.specs.Reads.{span_of}
use Rattle.token.specs.declared.read.Refusal.{Refusal}
use Rattle.token.specs.declared.reason.Reason.TheVariants.{ExpectedEscape}

-- the refusal of a backslash at b, after which the text ends at p
abbrev pub cut : ℕ → ℕ → Refusal
cut b p = record { reason = ExpectedEscape; span = span_of b p; reached = p }

module _ (b : ℕ) (s : List ℕ) (p : ℕ) where
  pub taken_none : rest s p ≡ [] → Err (cut b p) ≡ taken_of width b (rest s p) p
  taken_none e = rw e

  pub taken_step : (v n : ℕ) → Step s p v n → Ok n ≡ taken_of width b (rest s p) p
  taken_step v n t = rw t.here (ap Ok t.next)

  -- the other way round
  pub taken_some : (n : ℕ) → Ok n ≡ taken_of width b (rest s p) p → (v : ℕ) × Step s p v n
  taken_some n h =
      by_step s p (λ e. never (let z = taken_none e in cc))
      (λ v m t.
      let z = taken_step v m t in
      let same : m ≡ n = cc in
      (v, subst (λ (q : ℕ). Step s p v q) same t))

  pub taken_ended : (r : Refusal) → Err r ≡ taken_of width b (rest s p) p → (rest s p ≡ []) × (cut b p ≡ r)
  taken_ended r h =
      by_step s p (λ e. let z = taken_none e in (e, cc))
      (λ v m t. never (let z = taken_step v m t in cc))
