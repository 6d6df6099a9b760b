-- The token list at a place of a source: it ends, halts, or goes on after a token. Assumes nothing.
use Rattle.std.specs.Prelude.{Err, Ok}
use Prim.Native.Nat.{ℕ, ◌+◌, ◌≤◌, ◌<◌}
use mathlib.Core.Path.{◌≡◌, refl, sym, ap, ◌∙◌, subst}
use mathlib.Core.List.{List, [], ◌∷◌}
use mathlib.Core.Logic.{inl, inr}
use native.Mathlib.Omega.{arith}
use lib.ListN.{length}
use borrow.Author.Tests.{le-ltb, lt-ltb}
use Rattle.choice.specs.Rule.{token_with}
use Rattle.families.proofs.Ends.{next_consumes}
use Rattle.families.proofs.Starts.{next_start}
use Rattle.families.specs.Tokens.{each_of, fin, halt, more, tokens_at, tokens_of}
use Rattle.laws.proofs.Cases.{both_false, never}
use Rattle.lexer.specs.Next.{next_at, next_of}
use Rattle.readers.proofs.Lands.{Lands, lands_le, lands_room}
use Rattle.readers.specs.Rules.{Rules, rules_of}
use Rattle.readers.specs.declared.reading.Reading.{Reading}
use Rattle.templates.specs.Body.{token_of}
use Rattle.text.proofs.Decode.{Step, after_step, by_step, rest_tail, width_pos}
use Rattle.text.specs.Utf8.{after, rest, width}
use Rattle.token.specs.Reads.{got_of, reached_of, Read}
use Rattle.token.specs.declared.kind.Kind.TheVariants.{Eof}
use Rattle.token.specs.declared.read.Refusal.{Refusal}
use Rattle.token.specs.declared.read.Token.{Token}

module _ (R : Rules) where
  arrived : (n : ℕ) (cs : List ℕ) (t : ℕ) → tokens_of R n t cs t ≡ tokens_of R n 0 cs t
  unfolding tokens_of
  arrived n [] t = refl
  arrived n (v ∷ cs) t = rw (le-ltb t t (omega arith), le-ltb t 0 (omega arith), tokens_of)

pub tokens_skip : (g : Reading) (s cs : List ℕ) (p r : ℕ) → cs ≡ rest s p → Lands (rules_of g) cs p r → tokens_of (rules_of g) (length s) r cs p ≡ tokens_at (rules_of g) s r
unfolding tokens_of tokens_at
tokens_skip g s [] p r e k = subst (λ (x : ℕ). tokens_of (rules_of g) (length s) x [] p ≡ tokens_at (rules_of g) s x) k (rw (← e))
tokens_skip g s (v ∷ cs) p r e (inl k) =
    subst (λ (x : ℕ). tokens_of (rules_of g) (length s) x (v ∷ cs) p ≡ tokens_at (rules_of g) s x) k (rw (← e) (arrived (rules_of g) (length s) (v ∷ cs) p))
tokens_skip g s (v ∷ cs) p r e (inr k) =
    let z : p < r = omega (arith, width_pos v, lands_le (rules_of g) cs (p + width v) r k) in
    rw (lt-ltb p r z, tokens_of) (tokens_skip g s cs (p + width v) r (rest_tail s p v cs e) k)

pub next_end : (g : Reading) (s : List ℕ) (p : ℕ) → rest s p ≡ [] → next_at g s p ≡ got_of Eof p p
unfolding next_at next_of token_of token_with
next_end g s p e = rw (e, both_false)

module _ (g : Reading) (s : List ℕ) (p : ℕ) (r : Read) (er : r ≡ next_at g s p) where
  turn : (v n : ℕ) → Step s p v n → tokens_at (rules_of g) s p ≡ each_of r (λ t. tokens_of (rules_of g) (length s) t (rest s n) n)
  unfolding tokens_at tokens_of next_at
  turn v n t = rw er (rw t.here (rw (le-ltb p 0 (omega arith), tokens_of) (ap (λ (q : ℕ). each_of (next_of (rules_of g) (length s) (v ∷ rest s n) p) (λ t'. tokens_of (rules_of g) (length s) t' (rest s n) q)) (sym t.next))))

  passes : (v n : ℕ) → Step s p v n → Lands (rules_of g) (rest s n) n (reached_of r)
  unfolding next_at
  passes v n t =
      subst (λ (x : ℕ). Lands (rules_of g) (rest s n) x (reached_of r)) (sym t.next)
      (subst (λ (q : Read). Lands (rules_of g) (rest s n) (p + width v) (reached_of q)) (sym (er ∙ ap (λ (cs : List ℕ). next_of (rules_of g) (length s) cs p) t.here)) (next_consumes (rules_of g) (length s) v (rest s n) p))

  -- what is refused has read something too, and no more than there is
  pub reached_within : p ≤ length s → reached_of r ≤ length s
  reached_within h = by_step s p (λ z. rw (er ∙ next_end g s p z) h) (λ v n t. lands_room g s (rest s n) n (reached_of r) refl t.room (passes v n t))

  pub refused_past : (k : Refusal) → r ≡ Err k → p < reached_of r
  refused_past k e =
      by_step s p (λ z. never (let y = er ∙ next_end g s p z in cc))
      (λ v n t. let b = lands_le (rules_of g) (rest s n) n (reached_of r) (passes v n t) in let w = t.past in omega arith)

  pub tokens_halt : (k : Refusal) → r ≡ Err k → tokens_at (rules_of g) s p ≡ halt k
  tokens_halt k e = by_step s p (λ z. never (let y = er ∙ next_end g s p z in cc)) (λ v n t. turn v n t ∙ rw e)

  module _ (k : Token) (e : r ≡ Ok k) where
    reached : (x : ℕ) → reached_of r ≡ x → k.span.end ≡ x
    reached x h = sym (ap reached_of e) ∙ h

    at_end : rest s p ≡ [] → k.span.end ≡ p
    at_end z = reached p (ap reached_of (er ∙ next_end g s p z))

    lands_end : (v n : ℕ) → Step s p v n → Lands (rules_of g) (rest s n) n k.span.end
    lands_end v n t = subst (λ (x : ℕ). Lands (rules_of g) (rest s n) n x) (ap reached_of e) (passes v n t)

    -- where it ends where it started, there was nothing to read
    pub tokens_fin : k.span.end ≡ p → tokens_at (rules_of g) s p ≡ fin
    unfolding tokens_at tokens_of
    tokens_fin h =
        by_step s p (λ z. rw z)
        (λ v n t. absurd (let b = lands_le (rules_of g) (rest s n) n k.span.end (lands_end v n t) in let w = t.past in omega arith))

    module _ (h : k.span.end ≡ p → ⊥) where
      pub tokens_more : tokens_at (rules_of g) s p ≡ more k (tokens_at (rules_of g) s k.span.end)
      tokens_more = by_step s p (λ z. absurd (h (at_end z))) (λ v n t. turn v n t ∙ rw e (ap (more k) (tokens_skip g s (rest s n) n k.span.end refl (lands_end v n t))))

      pub tokens_past : p < k.span.end
      tokens_past = by_step s p (λ z. absurd (h (at_end z))) (λ v n t. let b = lands_le (rules_of g) (rest s n) n k.span.end (lands_end v n t) in let w = t.past in omega arith)

      pub tokens_room : k.span.end ≤ length s
      tokens_room = by_step s p (λ z. absurd (h (at_end z))) (λ v n t. lands_room g s (rest s n) n k.span.end refl t.room (lands_end v n t))

    pub tokens_start : k.span.start ≡ p
    unfolding next_at
    tokens_start = next_start (rules_of g) (length s) (rest s p) p k (sym er ∙ e)

-- a token goes on at a place from which the same scalars are left
pub place_on : (g : Reading) (s cs : List ℕ) (p r : ℕ) → cs ≡ rest s p → Lands (rules_of g) cs p r → after (rest s r) r ≡ after cs p
unfolding after
place_on g s [] p r e k = subst (λ (x : ℕ). after (rest s x) x ≡ after [] p) k (rw (← e))
place_on g s (v ∷ cs) p r e (inl k) = subst (λ (x : ℕ). after (rest s x) x ≡ after (v ∷ cs) p) k (rw (← e))
place_on g s (v ∷ cs) p r e (inr k) = place_on g s cs (p + width v) r (rest_tail s p v cs e) k

pub tokens_place : (g : Reading) (s : List ℕ) (p : ℕ) (k : Token) → next_at g s p ≡ Ok k → (k.span.end ≡ p → ⊥) → after (rest s k.span.end) k.span.end ≡ after (rest s p) p
tokens_place g s p k e h =
    by_step s p (λ z. absurd (h (at_end g s p (next_at g s p) refl k e z)))
    (λ v n t. place_on g s (rest s n) n k.span.end refl (lands_end g s p (next_at g s p) refl k e v n t) ∙ after_step s p v n t)

pub tokens_past_step : (g : Reading) (s : List ℕ) (p : ℕ) (k : Token) → next_at g s p ≡ Ok k → (v n : ℕ) → Step s p v n → p < k.span.end
tokens_past_step g s p k e v n t = let b = lands_le (rules_of g) (rest s n) n k.span.end (lands_end g s p (next_at g s p) refl k e v n t) in let w = t.past in omega arith
