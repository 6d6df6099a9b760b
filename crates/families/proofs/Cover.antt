-- Accepted spans cover a sound source with no gap, and no token is empty. Assumes nothing.
use Rattle.std.specs.Prelude.{Err, Ok}
use Rattle.token.specs.Reads.{Read}
use Prim.Native.Nat.{ℕ, ◌<◌}
use mathlib.Core.Path.{◌≡◌, refl, sym, ◌∙◌, subst}
use mathlib.Core.List.{List}
use native.Mathlib.Omega.{arith}
use lib.ListN.{length}
use Rattle.families.proofs.Steps.{tokens_fin, tokens_halt, tokens_more, tokens_past, tokens_past_step, tokens_place, tokens_start}
use Rattle.families.specs.Tokens.{Covers, Tokens, fin, halt, more, tokens_at}
use Rattle.laws.proofs.Cases.{never, split_eq}
use Rattle.lexer.specs.Next.{next_at}
use Rattle.readers.specs.Rules.{rules_of}
use Rattle.readers.specs.declared.reading.Reading.{Reading}
use Rattle.source_test.proofs.Places.{sound_inv}
use Rattle.source_test.specs.Source.{sound_to, source_test}
use Rattle.text.proofs.Decode.{after_end, by_step}
use Rattle.text.specs.Utf8.{after, rest}
use Rattle.token.specs.declared.read.Refusal.{Refusal}
use Rattle.token.specs.declared.read.Token.{Token}

pub by_read {ℓ} : {X : Type ℓ} (r : Read) → ((k : Token) → r ≡ Ok k → X) → ((k : Refusal) → r ≡ Err k → X) → X
by_read (Ok k) f g = f k refl
by_read (Err k) f g = g k refl

cover_from : (g : Reading) (s : List ℕ) (ts : Tokens) (p : ℕ) → ts ≡ tokens_at (rules_of g) s p → after (rest s p) p ≡ length s → Covers ts p (length s)
unfolding Covers
cover_from g s fin p e h =
    by_read (next_at g s p)
    (λ k q. split_eq k.span.end p
    (λ i. ends k q i)
    (λ i. never (let z = tokens_more g s p (next_at g s p) refl k q i in cc)))
    (λ k q. never (let z = tokens_halt g s p (next_at g s p) refl k q in cc))
  where
    ends : (k : Token) → next_at g s p ≡ Ok k → k.span.end ≡ p → p ≡ length s
    ends k q i =
        by_step s p (λ z. sym (after_end s p z) ∙ h)
        (λ v n t. absurd (let z = tokens_past_step g s p k q v n t in omega arith))
cover_from g s (halt r) p e h = tt
cover_from g s (more k ts) p e h =
    by_read (next_at g s p)
    (λ j q. split_eq j.span.end p (λ i. never (let z = tokens_fin g s p (next_at g s p) refl j q i in cc))
    (λ i.
    let z = tokens_more g s p (next_at g s p) refl j q i in
    let ej : k ≡ j = cc in
    let et : ts ≡ tokens_at (rules_of g) s j.span.end = cc in
    subst (λ (x : Token). (x.span.start ≡ p) × (p < x.span.end) × Covers ts x.span.end (length s)) (sym ej)
    (tokens_start g s p (next_at g s p) refl j q, tokens_past g s p (next_at g s p) refl j q i, cover_from g s ts j.span.end et (tokens_place g s p j q i ∙ h))))
    (λ j q. never (let z = tokens_halt g s p (next_at g s p) refl j q in cc))

-- document 01: accepted spans cover the source with no gap
pub covers : (g : Reading) (s : List ℕ) → source_test s ≡ Ok tt → Covers (tokens_at (rules_of g) s 0) 0 (length s)
unfolding sound_to
covers g s h = cover_from g s (tokens_at (rules_of g) s 0) 0 refl (sound_inv s h).1
