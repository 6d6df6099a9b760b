-- How far ahead a token looks: the scalars up to the place reached, and those that are near. Assumes nothing.
use Rattle.operators.specs.declared.Operator.{Operator}
use Rattle.std.specs.Prelude.{Err, Ok, None, Option, Some}
use Prim.Native.Nat.{ℕ, zero, suc, ◌+◌, ◌≤◌}
use mathlib.Core.Path.{◌≡◌, refl, sym, ap, ◌∙◌, subst}
use mathlib.Core.List.{List, [], ◌∷◌, ◌++◌, append_assoc}
use mathlib.Core.Bool.{true, false}
use mathlib.Core.Logic.{inl, inr}
use native.Mathlib.Omega.{arith}
use lib.Dec.{ltb, eqb}
use borrow.Author.Tests.{lt-ltb}
use Rattle.choice.specs.Rule.{Deep, behind_one, first_of, next_is, other_of, token_with}
use Rattle.families.proofs.Ends.{close_reached, next_past, token_past}
use Rattle.families.proofs.Looks.{byte_local, char_local, comment_local, line_local, number_local, op_local, str_local, white_local, word_local}
use Rattle.families.proofs.Nearby.{head_append, near_append, next_head}
use Rattle.families.proofs.Pairs.{first-both, turn-both}
use Rattle.families.specs.Near.{Local, Near}
use Rattle.families.specs.Places.{Cut, place_after}
use Rattle.families.specs.Sane.{Sane}
use Rattle.laws.proofs.Cases.{both_inv, never, split}
use Rattle.laws.specs.Bools.{both}
use Rattle.lexer.specs.Next.{close_span, is_shebang, next_of}
use Rattle.readers.proofs.Lands.{Lands, byte_lands, comment_lands, lands_le, line_lands, str_lands}
use Rattle.readers.specs.Readers.{byte_of, comment_of, line_of, str_of}
use Rattle.readers.specs.Rules.{Rules}
use Rattle.templates.proofs.Landing.{NextLands, body_consumes, deep_of, token_lands, with_deep}
use Rattle.templates.specs.Body.{go_on, template_body, template_of, token_of}
use Rattle.token.specs.Reads.{reached_of, Read, number_in}
use Rattle.token.specs.declared.kind.Kind.TheVariants.{Comment, Shebang}
use Rattle.token.specs.declared.read.Token.{Token}

abbrev end_in : Option Operator → ℕ
end_in None = 0
end_in (Some o) = o.end

module _ (R : Rules) (sane : Sane R) where
  behind_local : (g : List ℕ → ℕ → Read) → Local R g → NextLands R g → (c : ℕ) (f x y : List ℕ) (p : ℕ) → next_is c (f ++ x) ≡ true
      → reached_of (behind_one R g (f ++ x) p) ≡ place_after R.stride f p → Near x y → behind_one R g (f ++ y) p ≡ behind_one R g (f ++ x) p
  unfolding place_after
  behind_local g k l c [] [] y p e r h = never (cc)
  behind_local g k l c [] (w ∷ x) y p e r h = absurd (let z = lands_le R x (p + R.stride w) (reached_of (g x (p + R.stride w))) (l x (p + R.stride w)) in let s = sane.steps w in omega arith)
  behind_local g k l c (u ∷ f) x y p e r h = k f x y (p + R.stride u) r h

  abbrev DeepLocal : Deep → Type 0
  DeepLocal t = (a : ℕ) → Local R (t a)

  first_local : (t : Deep) → DeepLocal t → (v a : ℕ) → Local R (first_of R t v a)
  unfolding other_of
  first_local t d v a f x y p r h =
      first-both R R t t v a a (f ++ x) (f ++ y) p p (λ r r'. reached_of r ≡ place_after R.stride f p → r' ≡ r)
      (λ c. next_head c (f ++ x) (f ++ y) (head_append f x y h)) refl
      (λ e. white_local R sane a f x y p e h)
      (λ i e. behind_local (line_of R.stride Comment a) (line_local R sane a Comment) (λ ds q. line_lands R a ds q Comment) 47 f x y p (both_inv (eqb v 47) (next_is 47 (f ++ x)) i).1 e h)
      (λ i e. behind_local (comment_of R.stride R.skip a) (comment_local R sane a) (comment_lands R a) 42 f x y p (both_inv (eqb v 47) (next_is 42 (f ++ x)) i).1 e h)
      (λ i e. behind_local (byte_of R.stride a) (byte_local R sane a) (byte_lands R a) 39 f x y p i e h)
      (λ i e. behind_local (str_of R.stride true a) (str_local R sane a true) (λ ds q. str_lands R a ds q true) 34 f x y p (both_inv (eqb v 98) (next_is 34 (f ++ x)) i).1 e h)
      (λ i e. str_local R sane a false f x y p e h)
      (λ k e q z. rw (op_local R sane v f x y p (λ k' e' q'. ap end_in (sym q' ∙ q) ∙ z) h ∙ q))
      (λ q. op_local R sane v f x y p (λ k e z. never (cc)) h ∙ q)
      (λ e. word_local R sane a v f x y p e h) (λ e. number_local R sane a v R.exponents f x y p e h) (λ e. char_local R sane a f x y p e h)
      (λ i e. d a f x y p e h) (λ e. refl) r

  -- a place reached before the end of a front cuts the front
  front_cut : (f x : List ℕ) (p r : ℕ) → Lands R (f ++ x) p r → r ≤ place_after R.stride f p → Cut R f p r
  unfolding place_after
  front_cut [] x p r h l = record { front = []; back = []; whole = refl; ends = (let z = lands_le R x p r h in omega arith) }
  front_cut (v ∷ f) x p r (inl h) l = record { front = []; back = v ∷ f; whole = refl; ends = sym h }
  front_cut (v ∷ f) x p r (inr h) l =
      let c = front_cut f x (p + R.stride v) r h l in
      record { front = v ∷ c.front; back = c.back; whole = ap (λ (z : List ℕ). v ∷ z) c.whole; ends = c.ends }

  module _ (next : List ℕ → ℕ → Read) (g : Local R next) (nl : NextLands R next) where
    -- so a token inside a front is read the same too
    pub within_front : (f x y : List ℕ) (p : ℕ) → reached_of (next (f ++ x) p) ≤ place_after R.stride f p → Near x y → next (f ++ y) p ≡ next (f ++ x) p
    within_front f x y p l h =
        let c = front_cut f x p (reached_of (next (f ++ x) p)) (nl (f ++ x) p) l in
        let over : (z : List ℕ) → f ++ z ≡ c.front ++ (c.back ++ z) = λ z. ap (λ (b : List ℕ). b ++ z) c.whole ∙ append_assoc c.front c.back z in
        ap (λ (z : List ℕ). next z p) (over y)
        ∙ g c.front (c.back ++ x) (c.back ++ y) p (ap (λ (z : List ℕ). reached_of (next z p)) (sym (over x)) ∙ c.ends) (near_append c.back x y h)
        ∙ ap (λ (z : List ℕ). next z p) (sym (over x))

    module _ (a : ℕ) where
      -- a template goes at least to where it was sent
      body_reach : (t : ℕ) (cs : List ℕ) (p l : ℕ) → Lands R cs p t → t ≤ reached_of (template_body R next a t cs p l)
      unfolding template_body
      body_reach t [] p l h = omega arith
      body_reach t (v ∷ cs) p l (inl h) =
          let z = lands_le R cs (p + R.stride v) (reached_of (template_body R next a t (v ∷ cs) p l)) (body_consumes R next nl a t v cs p l) in omega arith
      body_reach t (v ∷ cs) p l (inr h) =
          let s = sane.steps v in
          let k = lands_le R cs (p + R.stride v) t h in
          rw (lt-ltb p t (omega arith), template_body) (body_reach t cs (p + R.stride v) l h)

      abbrev Ways : List ℕ → List ℕ → List ℕ → ℕ → Type 0
      Ways f x y q = (t l : ℕ) → reached_of (template_body R next a t (f ++ x) q l) ≡ place_after R.stride f q → template_body R next a t (f ++ y) q l ≡ template_body R next a t (f ++ x) q l

      on_local : (f x y : List ℕ) (q l : ℕ) → Ways f x y q → Near x y → (r : Read) → next (f ++ x) q ≡ r → reached_of (go_on a r (λ t. template_body R next a t (f ++ x) q l)) ≡ place_after R.stride f q
          → go_on a (next (f ++ y) q) (λ t. template_body R next a t (f ++ y) q l) ≡ go_on a r (λ t. template_body R next a t (f ++ x) q l)
      on_local f x y q l w h (Ok k) er e =
          let lands : Lands R (f ++ x) q k.span.end = subst (λ (r : Read). Lands R (f ++ x) q (reached_of r)) er (nl (f ++ x) q) in
          let reach = body_reach k.span.end (f ++ x) q l lands in
          let u : next (f ++ y) q ≡ Ok k = within_front f x y q (rw er (omega arith)) h ∙ er in
          rw u (w k.span.end l e)
      on_local f x y q l w h (Err k) er e =
          split (eqb (number_in k) 19)
          (λ i.
          let e' = (rw (i, go_on) at e) in
          let u : next (f ++ y) q ≡ Err k = within_front f x y q (rw er (omega arith)) h ∙ er in
          rw u (rw (i, go_on) refl))
          (λ i.
          let e' = (rw (i, go_on) at e) in
          let lands : Lands R (f ++ x) q k.reached = subst (λ (r : Read). Lands R (f ++ x) q (reached_of r)) er (nl (f ++ x) q) in
          let reach = body_reach k.reached (f ++ x) q l lands in
          let u : next (f ++ y) q ≡ Err k = within_front f x y q (rw er (omega arith)) h ∙ er in
          rw u (rw (i, go_on) (w k.reached l e')))

      body_local : (t : ℕ) (f x y : List ℕ) (p l : ℕ) → reached_of (template_body R next a t (f ++ x) p l) ≡ place_after R.stride f p → Near x y → template_body R next a t (f ++ y) p l ≡ template_body R next a t (f ++ x) p l
      unfolding template_body place_after
      body_local t [] [] [] p l r h = refl
      body_local t [] [] (w ∷ y) p l r h = absurd h
      body_local t [] (v ∷ x) y p l r h =
          absurd (let z = lands_le R x (p + R.stride v) (reached_of (template_body R next a t (v ∷ x) p l)) (body_consumes R next nl a t v x p l) in let s = sane.steps v in omega arith)
      body_local t (v ∷ f) x y p l r h =
          let q = p + R.stride v in
          let go : List ℕ → ℕ → ℕ → Read = λ z t' l'. template_body R next a t' (f ++ z) q l' in
          split (ltb p t) (λ i. rw (i, template_body) (body_local t f x y q l (rw (i, template_body) at r) h))
          (λ i. rw (i, template_body)
          (turn-both next next a a v (f ++ x) (f ++ y) q q l (go x) (go y) (λ r r'. reached_of r ≡ place_after R.stride f q → r' ≡ r) (λ j e. refl)
          (λ m e. body_local 0 f x y q m e h) (on_local f x y q l (λ t' l' e. body_local t' f x y q l' e h) h (next (f ++ x) q) refl) (rw (i, template_body) at r)))

  with_local : (d : ℕ) → DeepLocal (deep_of R d) → Local R (token_of R d)
  unfolding token_with place_after
  with_local d g [] [] [] p r h = refl
  with_local d g [] [] (w ∷ y) p r h = absurd h
  with_local d g [] (v ∷ x) y p r h = absurd (let z = token_past R sane d v x p in omega arith)
  with_local d g (v ∷ f) x y p r h =
      let e : (z : List ℕ) → token_of R d (v ∷ z) p ≡ first_of R (deep_of R d) v p z (p + R.stride v) = λ z. with_deep R d (v ∷ z) p in
      e (f ++ y) ∙ first_local (deep_of R d) g v p f x y (p + R.stride v) (ap reached_of (sym (e (f ++ x))) ∙ r) h ∙ sym (e (f ++ x))

  pub token_local : (d : ℕ) → Local R (token_of R d)
  unfolding deep_of template_of
  token_local zero = with_local 0 (λ a f x y p r h. refl)
  token_local (suc d) = with_local (suc d) (λ a f x y p r h. body_local (token_of R d) (token_local d) (token_lands R d) a 0 f x y p 0 r h)

  -- the same of a token of a source, whose end is n
  pub next_local : (n : ℕ) → Local R (next_of R n)
  unfolding next_of place_after
  next_local n [] [] [] p r h = refl
  next_local n [] [] (w ∷ y) p r h = absurd h
  next_local n [] (v ∷ x) y p r h = absurd (let z = next_past R sane n v x p in omega arith)
  next_local n (v ∷ f) x y p r h =
      let i : is_shebang (v ∷ (f ++ y)) ≡ is_shebang (v ∷ (f ++ x)) = ap (both (eqb v 35)) (next_head 33 (f ++ x) (f ++ y) (head_append f x y h)) in
      split (both (eqb p 0) (is_shebang (v ∷ (f ++ x))))
      (λ e.
      let b = (both_inv (eqb v 35) (next_is 33 (f ++ x)) (both_inv (eqb p 0) (is_shebang (v ∷ (f ++ x))) e).1).1 in
      rw (i, e) (behind_local (line_of R.stride Shebang p) (line_local R sane p Shebang) (λ ds q. line_lands R p ds q Shebang) 33 f x y (p + R.stride v) b (rw e at r) h))
      (λ e. rw (i, e) (ap (close_span n) (token_local 64 (v ∷ f) x y p (sym (close_reached R n (token_of R 64 (v ∷ (f ++ x)) p)) ∙ (rw e at r)) h)))

-- an accepted token does not depend on where the source ends
pub next_any : (R : Rules) (n n' : ℕ) (cs : List ℕ) (p : ℕ) (k : Token) → next_of R n cs p ≡ Ok k → next_of R n' cs p ≡ Ok k
unfolding next_of
next_any R n n' cs p k = split (both (eqb p 0) (is_shebang cs)) (λ e. rw e (λ h. h)) (λ e. rw e (shut_same (token_of R 64 cs p)))
  where
    shut_same : (r : Read) → close_span n r ≡ Ok k → close_span n' r ≡ Ok k
    shut_same (Ok j) = λ h. h
    shut_same (Err r) = split (eqb (number_in r) 12) (λ e. rw e (λ h. never (cc))) (λ e. rw e (λ h. never (cc)))
