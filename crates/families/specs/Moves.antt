-- No rule of document 01, for theorems: places counted otherwise, by rules that differ only in how far a scalar moves the place, and answers with their places mapped.
use Rattle.std.specs.Prelude.{Err, Ok, ℕ, ◌+◌, ◌≡◌, List, [], ◌∷◌, take}
use Rattle.families.specs.Places.{place_after}
use Rattle.readers.specs.Rules.{Rules}
use Rattle.token.specs.Reads.{span_of, Read}
use Rattle.token.specs.declared.read.Refusal.{Refusal}
use Rattle.token.specs.declared.read.Span.{Span}
use Rattle.token.specs.declared.read.Token.{Token}

abbrev pub with_stride : Rules → (ℕ → ℕ) → Rules
with_stride R w = record { stride = w; skip = R.skip; start = R.start; continue = R.continue; exponents = R.exponents }

-- g takes the places of the scalars cs, by R from p, to their places by the width w from g p
abbrev pub Moves : Rules → (ℕ → ℕ) → (ℕ → ℕ) → List ℕ → ℕ → Type 0
Moves R w g [] p = Unit
Moves R w g (v ∷ cs) p = (g (p + R.stride v) ≡ g p + w v) × Moves R w g cs (p + R.stride v)

module _ (g : ℕ → ℕ) where
  abbrev pub map_span : Span → Span
  map_span s = span_of (g s.start) (g s.end)

  abbrev pub map_token : Token → Token
  map_token k = record { kind = k.kind; span = map_span k.span }

  abbrev pub map_refusal : Refusal → Refusal
  map_refusal r = record { reason = r.reason; span = map_span r.span; reached = g r.reached }

  abbrev pub map_read : Read → Read
  map_read (Ok k) = Ok (map_token k)
  map_read (Err r) = Err (map_refusal r)

-- places that count scalars, and the place by R of the i-th of the scalars cs
abbrev pub counting : Rules → Rules
counting R = with_stride R (λ v. 1)

unfoldable pub place_of : Rules → List ℕ → ℕ → ℕ
place_of R cs i = place_after R.stride (take i cs) 0
