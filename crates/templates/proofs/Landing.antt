-- A token and a template stop at a scalar's place, and go past the scalar that they start with. Assumes nothing.
use Rattle.std.specs.Prelude.{Err, Ok}
use Rattle.std.proofs.Common.{◌≡◌, ℕ, zero, suc, ◌+◌, true, false, eqb, ltb, List, [], ◌∷◌, refl, subst, inl, inr, arith, le-ltb, lt-ltb}
use Rattle.choice.proofs.Choice.{first-cases}
use Rattle.choice.specs.Rule.{Deep, behind_one, first_of, token_with}
use Rattle.laws.proofs.Cases.{split}
use Rattle.operators.proofs.Ends.{operator_lands}
use Rattle.readers.proofs.Lands.{Lands, byte_lands, char_lands, comment_lands, lands_here, lands_le, line_lands, number_lands, str_lands, white_lands, word_lands}
use Rattle.readers.specs.Readers.{byte_of, comment_of, line_of, str_of}
use Rattle.readers.specs.Rules.{Rules, rules_of}
use Rattle.readers.specs.declared.reading.Reading.{Reading}
use Rattle.templates.specs.Body.{down, go_on, template_body, template_of, template_turn, token_of, too_deep, up}
use Rattle.text.proofs.Decode.{rest_tail, width_pos}
use Rattle.text.specs.Utf8.{rest, width}
use Rattle.token.specs.Reads.{reached_of, Read, number_in}
use Rattle.token.specs.declared.kind.Kind.TheVariants.{Comment}

module _ (R : Rules) where
  abbrev pub DeepLands : Deep → Type 0
  DeepLands t = (a : ℕ) (cs : List ℕ) (p : ℕ) → Lands R cs p (reached_of (t a cs p))

  abbrev pub NextLands : (List ℕ → ℕ → Read) → Type 0
  NextLands next = (cs : List ℕ) (p : ℕ) → Lands R cs p (reached_of (next cs p))

  behind_lands : (f : List ℕ → ℕ → Read) → NextLands f → (cs : List ℕ) (p : ℕ) → Lands R cs p (reached_of (behind_one R f cs p))
  behind_lands f h [] p = h [] p
  behind_lands f h (v ∷ cs) p = inr (h cs (p + R.stride v))

  pub first_lands : (t : Deep) → DeepLands t → (v a : ℕ) (cs : List ℕ) (p : ℕ) → Lands R cs p (reached_of (first_of R t v a cs p))
  first_lands t d v a cs p =
      first-cases R t v a cs p (λ r. Lands R cs p (reached_of r)) (white_lands R a cs p)
      (λ h. behind_lands (line_of R.stride Comment a) (λ ds q. line_lands R a ds q Comment) cs p) (λ h. behind_lands (comment_of R.stride R.skip a) (comment_lands R a) cs p)
      (λ h. behind_lands (byte_of R.stride a) (byte_lands R a) cs p) (λ h. behind_lands (str_of R.stride true a) (λ ds q. str_lands R a ds q true) cs p)
      (str_lands R a cs p false) (λ k e h. operator_lands R v cs p k e h) (word_lands R a cs p v) (number_lands R a cs p v R.exponents) (char_lands R a cs p) (d a cs p)
      (lands_here R cs p)

  with_lands : (t : Deep) → DeepLands t → NextLands (token_with R t)
  unfolding token_with
  with_lands t d [] p = refl
  with_lands t d (v ∷ cs) p = inr (first_lands t d v p cs (p + R.stride v))

  -- arrived at t, or with no place to go to: the same
  pub body_arrived : (next : List ℕ → ℕ → Read) (a : ℕ) (cs : List ℕ) (t l : ℕ) → template_body R next a t cs t l ≡ template_body R next a 0 cs t l
  unfolding template_body
  body_arrived next a [] t l = refl
  body_arrived next a (v ∷ cs) t l = rw (le-ltb t t (omega arith), le-ltb t 0 (omega arith), template_body)

  module _ (next : List ℕ → ℕ → Read) (n : NextLands next) (a : ℕ) where
    turn_lands : (v : ℕ) (cs : List ℕ) (p l : ℕ) (go : ℕ → ℕ → Read) → ((t l' : ℕ) → Lands R cs p (reached_of (go t l'))) → Lands R cs p (reached_of (template_turn next a v cs p l go))
    unfolding template_turn
    turn_lands v cs p l go g =
        split (eqb v 96) (λ h. split (eqb l 0) (λ i. rw (h, i, template_turn) (lands_here R cs p)) (λ i. rw (h, i, template_turn) (g 0 l)))
        (λ h. split (eqb v 123) (λ i. rw (h, i, template_turn) (g 0 (up l)))
        (λ i. split (eqb v 125) (λ j. rw (h, i, j, template_turn) (g 0 (down l)))
        (λ j. split (eqb v 92) (λ k. rw (h, i, j, k, template_turn) (inner (next cs p) (n cs p))) (λ k. rw (h, i, j, k, template_turn) (g 0 l)))))
      where
        inner : (r : Read) → Lands R cs p (reached_of r) → Lands R cs p (reached_of (go_on a r (λ t. go t l)))
        inner (Ok k) h = g k.span.end l
        inner (Err r) h = split (eqb (number_in r) 19) (λ e. rw (e, reached_of) h) (λ e. rw (e, reached_of) (g r.reached l))

    pub body_lands : (t : ℕ) (cs : List ℕ) (p l : ℕ) → Lands R cs p (reached_of (template_body R next a t cs p l))
    unfolding template_body
    body_lands t [] p l = refl
    body_lands t (v ∷ cs) p l =
        split (ltb p t) (λ h. rw (h, template_body) (inr (body_lands t cs (p + R.stride v) l)))
        (λ h. rw (h, template_body) (inr (turn_lands v cs (p + R.stride v) l (λ t' l'. template_body R next a t' cs (p + R.stride v) l') (λ t' l'. body_lands t' cs (p + R.stride v) l'))))

    pub body_consumes : (t v : ℕ) (cs : List ℕ) (p l : ℕ) → Lands R cs (p + R.stride v) (reached_of (template_body R next a t (v ∷ cs) p l))
    unfolding template_body
    body_consumes t v cs p l =
        split (ltb p t) (λ h. rw (h, template_body) (body_lands t cs (p + R.stride v) l))
        (λ h. rw (h, template_body) (turn_lands v cs (p + R.stride v) l (λ t' l'. template_body R next a t' cs (p + R.stride v) l') (λ t' l'. body_lands t' cs (p + R.stride v) l')))

  -- how a template is read where d more may open
  unfoldable pub deep_of : ℕ → Deep
  deep_of zero = too_deep
  deep_of (suc d) = template_of R (token_of R d)

  pub with_deep : (d : ℕ) (cs : List ℕ) (p : ℕ) → token_of R d cs p ≡ token_with R (deep_of d) cs p
  unfolding token_of deep_of
  with_deep zero cs p = refl
  with_deep (suc d) cs p = refl

  pub token_lands : (d : ℕ) → NextLands (token_of R d)
  unfolding token_of template_of
  token_lands zero cs p = with_lands too_deep (λ a ds q. lands_here R ds q) cs p
  token_lands (suc d) cs p = with_lands (template_of R (token_of R d)) (λ a ds q. body_lands (token_of R d) (token_lands d) a 0 ds q 0) cs p

  pub deep_lands : (d : ℕ) → DeepLands (deep_of d)
  unfolding deep_of template_of
  deep_lands zero a cs p = lands_here R cs p
  deep_lands (suc d) a cs p = body_lands (token_of R d) (token_lands d) a 0 cs p 0

  -- a token that starts with a scalar goes past it
  pub token_consumes : (d v : ℕ) (cs : List ℕ) (p : ℕ) → Lands R cs (p + R.stride v) (reached_of (token_of R d (v ∷ cs) p))
  unfolding token_with
  token_consumes d v cs p = rw (with_deep d (v ∷ cs) p) (first_lands (deep_of d) (deep_lands d) v p cs (p + R.stride v))

-- at a place of a source: what lies before r is passed over
pub body_skip : (g : Reading) (next : List ℕ → ℕ → Read) (a : ℕ) (s cs : List ℕ) (p r l : ℕ) → cs ≡ rest s p → Lands (rules_of g) cs p r → template_body (rules_of g) next a r cs p l ≡ template_body (rules_of g) next a 0 (rest s r) r l
unfolding template_body
body_skip g next a s [] p r l e k = subst (λ (x : ℕ). template_body (rules_of g) next a x [] p l ≡ template_body (rules_of g) next a 0 (rest s x) x l) k (rw (← e))
body_skip g next a s (v ∷ cs) p r l e (inl k) =
    subst (λ (x : ℕ). template_body (rules_of g) next a x (v ∷ cs) p l ≡ template_body (rules_of g) next a 0 (rest s x) x l) k (rw (← e) (body_arrived (rules_of g) next a (v ∷ cs) p l))
body_skip g next a s (v ∷ cs) p r l e (inr k) =
    let b = lands_le (rules_of g) cs (p + width v) r k in
    let w = width_pos v in
    rw (lt-ltb p r (omega arith), template_body) (body_skip g next a s cs (p + width v) r l (rest_tail s p v cs e) k)
