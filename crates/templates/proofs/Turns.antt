-- One step of the token reader and of the template reader, at a place of a source. Assumes nothing.
use Rattle.std.specs.Prelude.{Err, Ok}
use Rattle.token.specs.declared.reason.Reason.TheVariants.{TooDeep}
use Rattle.std.proofs.Common.{◌≡◌, ℕ, zero, suc, ◌+◌, ◌-◌, ◌%◌, ◌<◌, ◌≤◌, true, false, List, [], length, sym, refl, ap, ◌∙◌, subst, arith, le-ltb, eq-eqb, ne_eqb}
use Rattle.choice.proofs.Choice.{first_deep, first_plain}
use Rattle.choice.specs.Rule.{first_of, no_template, token_with}
use Rattle.readers.proofs.Lands.{Lands, lands_le, lands_room}
use Rattle.readers.specs.Rules.{rules_of}
use Rattle.readers.specs.declared.reading.Reading.{Reading}
use Rattle.templates.proofs.Landing.{body_skip, deep_of, token_lands, with_deep}
use Rattle.templates.specs.Body.{down, go_on, template_body, template_of, template_turn, token_of, up}
use Rattle.text.proofs.Decode.{Step}
use Rattle.text.specs.Utf8.{rest}
use Rattle.token.specs.Reads.{got_of, reached_of, refused_of, Read, number_in}
use Rattle.token.specs.declared.kind.Kind.TheVariants.{Eof, Template}
use Rattle.token.specs.declared.read.Refusal.{Refusal}
use Rattle.token.specs.declared.read.Token.{Token}

pub deep_none : (g : Reading) (d a : ℕ) (cs : List ℕ) (p : ℕ) → d ≡ 0 → refused_of TooDeep a p p ≡ deep_of (rules_of g) d a cs p
unfolding deep_of
deep_none g zero a cs p h = refl
deep_none g (suc d) a cs p h = absurd (omega arith)

pub deep_some : (g : Reading) (d a : ℕ) (cs : List ℕ) (p : ℕ) → (d ≡ 0 → ⊥) → template_of (rules_of g) (token_of (rules_of g) (d - 1)) a cs p ≡ deep_of (rules_of g) d a cs p
unfolding deep_of
deep_some g zero a cs p h = absurd (h refl)
deep_some g (suc d) a cs p h = let e : suc d - 1 ≡ d = omega arith in ap (λ (k : ℕ). template_of (rules_of g) (token_of (rules_of g) k) a cs p) e

module _ (g : Reading) (d : ℕ) (s : List ℕ) (p : ℕ) where
  pub token_end : rest s p ≡ [] → got_of Eof p p ≡ token_of (rules_of g) d (rest s p) p
  unfolding token_with
  token_end h = rw (with_deep (rules_of g) d (rest s p) p, h)

  module _ (v n : ℕ) (t : Step s p v n) where
    token_turn : first_of (rules_of g) (deep_of (rules_of g) d) v p (rest s n) n ≡ token_of (rules_of g) d (rest s p) p
    unfolding token_with
    token_turn = sym (with_deep (rules_of g) d (rest s p) p ∙ rw t.here (ap (first_of (rules_of g) (deep_of (rules_of g) d) v p (rest s n)) (sym t.next)))

    pub token_plain : (v ≡ 96 → ⊥) → first_of (rules_of g) no_template v p (rest s n) n ≡ token_of (rules_of g) d (rest s p) p
    token_plain h = first_plain (rules_of g) no_template (deep_of (rules_of g) d) v p (rest s n) n h ∙ token_turn

    pub token_deep : v ≡ 96 → deep_of (rules_of g) d p (rest s n) n ≡ token_of (rules_of g) d (rest s p) p
    token_deep h = first_deep g (deep_of (rules_of g) d) v p (rest s n) n h ∙ token_turn

module _ (g : Reading) (next : List ℕ → ℕ → Read) (a : ℕ) (s : List ℕ) (p l : ℕ) where
  pub body_end : rest s p ≡ [] → got_of (Template false) a p ≡ template_body (rules_of g) next a 0 (rest s p) p l
  unfolding template_body
  body_end h = rw h

  module _ (v n : ℕ) (t : Step s p v n) where
    body_turn : template_body (rules_of g) next a 0 (rest s p) p l ≡ template_turn next a v (rest s n) n l (λ t' l'. template_body (rules_of g) next a t' (rest s n) n l')
    unfolding template_body
    body_turn = rw t.here (rw (le-ltb p 0 (omega arith), template_body) (ap (λ (q : ℕ). template_turn next a v (rest s n) q l (λ t' l'. template_body (rules_of g) next a t' (rest s n) q l')) (sym t.next)))

    pub body_close : v ≡ 96 → l ≡ 0 → got_of (Template true) a n ≡ template_body (rules_of g) next a 0 (rest s p) p l
    unfolding template_turn
    body_close h k = rw body_turn (rw (eq-eqb v 96 h, eq-eqb l 0 k, template_turn))

    pub body_within : v ≡ 96 → (l ≡ 0 → ⊥) → template_body (rules_of g) next a 0 (rest s n) n l ≡ template_body (rules_of g) next a 0 (rest s p) p l
    unfolding template_turn
    body_within h k = rw body_turn (rw (eq-eqb v 96 h, ne_eqb l 0 k, template_turn))

    pub body_up : v ≡ 123 → template_body (rules_of g) next a 0 (rest s n) n (up l) ≡ template_body (rules_of g) next a 0 (rest s p) p l
    unfolding template_turn
    body_up h = rw body_turn (rw (ne_eqb v 96 (omega arith), eq-eqb v 123 h, template_turn))

    pub body_down : v ≡ 125 → template_body (rules_of g) next a 0 (rest s n) n (down l) ≡ template_body (rules_of g) next a 0 (rest s p) p l
    unfolding template_turn
    body_down h = rw body_turn (rw (ne_eqb v 96 (omega arith), ne_eqb v 123 (omega arith), eq-eqb v 125 h, template_turn))

    pub body_other : (v ≡ 96 → ⊥) → (v ≡ 123 → ⊥) → (v ≡ 125 → ⊥) → (v ≡ 92 → ⊥) → template_body (rules_of g) next a 0 (rest s n) n l ≡ template_body (rules_of g) next a 0 (rest s p) p l
    unfolding template_turn
    body_other h i j k = rw body_turn (rw (ne_eqb v 96 h, ne_eqb v 123 i, ne_eqb v 125 j, ne_eqb v 92 k, template_turn))

    pub body_token : v ≡ 92 → go_on a (next (rest s n) n) (λ r. template_body (rules_of g) next a r (rest s n) n l) ≡ template_body (rules_of g) next a 0 (rest s p) p l
    unfolding template_turn
    body_token h = rw body_turn (rw (ne_eqb v 96 (omega arith), ne_eqb v 123 (omega arith), ne_eqb v 125 (omega arith), eq-eqb v 92 h, template_turn))

-- after a token r that a backslash at p read, in a template within which d more may open
module _ (g : Reading) (d a : ℕ) (s : List ℕ) (p l v n : ℕ) (t : Step s p v n) (h : v ≡ 92) (r : Read) (er : r ≡ token_of (rules_of g) d (rest s n) n) where
  inner_lands : Lands (rules_of g) (rest s n) n (reached_of r)
  inner_lands = rw er (token_lands (rules_of g) d (rest s n) n)

  pub reached_past : p < reached_of r
  reached_past = let k = lands_le (rules_of g) (rest s n) n (reached_of r) inner_lands in let q = t.past in omega arith

  pub reached_room : reached_of r ≤ length s
  reached_room = lands_room g s (rest s n) n (reached_of r) refl t.room inner_lands

  inner_on : go_on a r (λ q. template_body (rules_of g) (token_of (rules_of g) d) a q (rest s n) n l) ≡ template_body (rules_of g) (token_of (rules_of g) d) a 0 (rest s p) p l
  inner_on = rw er (body_token g (token_of (rules_of g) d) a s p l v n t h)

  inner_go : (q : ℕ) → reached_of r ≡ q → template_body (rules_of g) (token_of (rules_of g) d) a q (rest s n) n l ≡ template_body (rules_of g) (token_of (rules_of g) d) a 0 (rest s q) q l
  inner_go q e = body_skip g (token_of (rules_of g) d) a s (rest s n) n q l refl (subst (λ (x : ℕ). Lands (rules_of g) (rest s n) n x) e inner_lands)

  pub after_got : (k : Token) → r ≡ Ok k → template_body (rules_of g) (token_of (rules_of g) d) a 0 (rest s k.span.end) k.span.end l ≡ template_body (rules_of g) (token_of (rules_of g) d) a 0 (rest s p) p l
  after_got k e = sym (inner_go k.span.end (rw e)) ∙ (rw e at inner_on)

  pub after_refused : (k : Refusal) → r ≡ Err k → (number_in k ≡ 19 → ⊥) → template_body (rules_of g) (token_of (rules_of g) d) a 0 (rest s k.reached) k.reached l ≡ template_body (rules_of g) (token_of (rules_of g) d) a 0 (rest s p) p l
  after_refused k e f = sym (inner_go k.reached (rw e)) ∙ (rw (e, ne_eqb (number_in k) 19 f, go_on) at inner_on)

  pub after_deep : (k : Refusal) → r ≡ Err k → number_in k ≡ 19 → refused_of TooDeep a k.span.end k.reached ≡ template_body (rules_of g) (token_of (rules_of g) d) a 0 (rest s p) p l
  after_deep k e f = rw (e, eq-eqb (number_in k) 19 f, go_on) at inner_on
