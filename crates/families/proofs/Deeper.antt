-- The bound on how deep templates go comes in by 19 alone. Assumes nothing.
use Rattle.std.specs.Prelude.{Err, Ok}
use Prim.Native.Nat.{ℕ, zero, suc, ◌+◌, ◌≤◌}
use mathlib.Core.Path.{◌≡◌, refl, ap, ◌∙◌}
use mathlib.Core.List.{List, [], ◌∷◌}
use native.Mathlib.Omega.{arith}
use lib.Dec.{ltb, eqb}
use borrow.Author.Tests.{eqb-false}
use Rattle.choice.specs.Rule.{Deep, other_of, token_with}
use Rattle.families.proofs.Pairs.{first-both, turn-both}
use Rattle.laws.proofs.Cases.{split, split_le}
use Rattle.readers.specs.Rules.{Rules}
use Rattle.templates.specs.Body.{go_on, template_body, template_of, token_of, too_deep}
use Rattle.token.specs.Reads.{refusal_number, Read, number_in}

-- an answer, and the one under a larger bound: the same, unless the first is 19
abbrev Stays : Read → Read → Type 0
Stays r r' = (refusal_number r ≡ 19 → ⊥) → r' ≡ r

module _ (R : Rules) where
  on_stays : (a : ℕ) (r r' : Read) (go go' : ℕ → Read) → Stays r r' → ((t : ℕ) → Stays (go t) (go' t)) → Stays (go_on a r go) (go_on a r' go')
  on_stays a (Ok k) r' go go' h g = rw (h (λ e. omega arith)) (g k.span.end)
  on_stays a (Err k) r' go go' h g =
      split (eqb (number_in k) 19) (λ e. rw (e, go_on) (λ n. absurd (n refl))) (λ e. rw (h (eqb-false (number_in k) 19 e)) (rw (e, go_on) (g k.reached)))

  module _ (next next' : List ℕ → ℕ → Read) (h : (cs : List ℕ) (p : ℕ) → Stays (next cs p) (next' cs p)) (a : ℕ) where
    body_stays : (t : ℕ) (cs : List ℕ) (p l : ℕ) → Stays (template_body R next a t cs p l) (template_body R next' a t cs p l)
    unfolding template_body
    body_stays t [] p l = λ n. refl
    body_stays t (v ∷ cs) p l =
        let q = p + R.stride v in
        let go : (List ℕ → ℕ → Read) → ℕ → ℕ → Read = λ f t' l'. template_body R f a t' cs q l' in
        split (ltb p t) (λ e. rw (e, template_body) (body_stays t cs q l))
        (λ e. rw (e, template_body)
        (turn-both next next' a a v cs cs q q l (go next) (go next') Stays (λ i n. refl) (λ m. body_stays 0 cs q m)
        (on_stays a (next cs q) (next' cs q) (λ t'. go next t' l) (λ t'. go next' t' l) (h cs q) (λ t'. body_stays t' cs q l))))

  with_stays : (t t' : Deep) → ((a : ℕ) (cs : List ℕ) (p : ℕ) → Stays (t a cs p) (t' a cs p)) → (cs : List ℕ) (p : ℕ) → Stays (token_with R t cs p) (token_with R t' cs p)
  unfolding token_with other_of
  with_stays t t' h [] p = λ n. refl
  with_stays t t' h (v ∷ cs) p =
      let q = p + R.stride v in
      first-both R R t t' v p p cs cs q q Stays (λ c. refl) refl (λ n. refl) (λ i n. refl) (λ i n. refl) (λ i n. refl) (λ i n. refl) (λ i n. refl)
      (λ k e i n. rw i) (λ i. i) (λ n. refl) (λ n. refl) (λ n. refl) (λ i. h p cs q) (λ n. refl)

  token_stays : (d : ℕ) (cs : List ℕ) (p : ℕ) → Stays (token_of R d cs p) (token_of R (suc d) cs p)
  unfolding token_of template_of
  token_stays zero = with_stays too_deep (template_of R (token_of R zero)) (λ a cs p n. absurd (n refl))
  token_stays (suc d) = with_stays (template_of R (token_of R d)) (template_of R (token_of R (suc d))) (λ a cs p. body_stays (token_of R d) (token_of R (suc d)) (token_stays d) a 0 cs p 0)

  -- a token that is not refused with 19 is read the same however much deeper templates may go
  pub deeper_same : (d e : ℕ) (cs : List ℕ) (p : ℕ) → (refusal_number (token_of R d cs p) ≡ 19 → ⊥) → d ≤ e → token_of R e cs p ≡ token_of R d cs p
  deeper_same d zero cs p n h = ap (λ (k : ℕ). token_of R k cs p) (omega arith)
  deeper_same d (suc e) cs p n h =
      split_le d e (λ l. let i = deeper_same d e cs p n l in token_stays e cs p (rw i n) ∙ i) (λ l. ap (λ (k : ℕ). token_of R k cs p) (omega arith))
