-- What stands after an opening mark, reader by reader. Assumes nothing.
use Rattle.std.specs.Prelude.{Err, Ok}
use Prim.Native.Nat.{ℕ, zero, suc, ◌+◌}
use mathlib.Core.Path.{◌≡◌, refl, sym, ap, ◌∙◌, subst}
use mathlib.Core.List.{List, [], ◌∷◌, ◌++◌, append-nil}
use mathlib.Core.Bool.{Bool, true, false}
use native.Mathlib.Omega.{arith}
use lib.Dec.{ltb, eqb}
use borrow.Author.Tests.{eqb-true}
use Rattle.families.proofs.Pairs.{turn-both}
use Rattle.families.specs.Places.{place_after}
use Rattle.families.specs.Shape.{Framed, Shape, ShapeFits, comment_shape, line_shape, mark_after, mark_before, shape_kind, string_shape, template_shape}
use Rattle.laws.proofs.Cases.{never, split}
use Rattle.readers.proofs.Scans.{by_act}
use Rattle.readers.specs.Readers.{Closing, Quoted, after_star, closed_by, comment_step, in_line, run_step, skips, slashed, str_step, text}
use Rattle.readers.specs.Rules.{Rules}
use Rattle.readers.specs.Scan.{Act, before, behind, full, on, scan}
use Rattle.templates.specs.Body.{go_on, template_body}
use Rattle.token.specs.Reads.{span_of, Read, number_in}
use Rattle.token.specs.declared.kind.Kind.TheVariants.{Template}

module _ (R : Rules) where
  -- a form's inside, its closing mark and more, where n scalars are yet to be passed over
  pub record Inner (n : ℕ) (shape : Shape) (cs : List ℕ) (p e : ℕ) : Type 0 where
    pub mid : List ℕ
    pub back : List ℕ
    pub whole : cs ≡ mid ++ (mark_after shape ++ back)
    pub ends : e ≡ place_after R.stride (mark_after shape) (place_after R.stride mid p)
    pub fits : ShapeFits n shape mid back

  -- an opening mark before it makes a token
  pub opened : (shape : Shape) (cs : List ℕ) (p e : ℕ) → Inner R.skip shape cs (place_after R.stride (mark_before shape) p) e → Framed R (mark_before shape ++ cs) p (record { kind = shape_kind shape; span = span_of p e })
  opened shape cs p e i = record { shape = shape; mid = i.mid; back = i.back; kind = refl; whole = ap (λ (z : List ℕ). mark_before shape ++ z) i.whole; ends = i.ends; fits = i.fits }

  inner_cons : (n m : ℕ) (shape : Shape) → ((v : ℕ) (mid back : List ℕ) → ShapeFits n shape mid back → ShapeFits m shape (v ∷ mid) back) → (v : ℕ) (cs : List ℕ) (p e : ℕ) → Inner n shape cs (p + R.stride v) e → Inner m shape (v ∷ cs) p e
  unfolding place_after
  inner_cons n m shape f v cs p e i =
      record { mid = v ∷ i.mid; back = i.back; whole = ap (λ (z : List ℕ). v ∷ z) i.whole; ends = i.ends; fits = f v i.mid i.back i.fits }

  fits_more : (n : ℕ) (shape : Shape) (v : ℕ) (mid back : List ℕ) → ShapeFits n shape mid back → ShapeFits n shape (v ∷ mid) back
  fits_more n line_shape v mid back h = h
  fits_more n (comment_shape true) v mid back h = omega arith
  fits_more n (comment_shape false) v mid back h = h
  fits_more n (string_shape b e) v mid back h = h
  fits_more n (template_shape true) v mid back h = h
  fits_more n (template_shape false) v mid back h = h

  -- a scalar more inside
  pub inner_more : (n : ℕ) (shape : Shape) (v : ℕ) (cs : List ℕ) (p e : ℕ) → Inner n shape cs (p + R.stride v) e → Inner n shape (v ∷ cs) p e
  inner_more n shape = inner_cons n n shape (fits_more n shape)

  -- a closing mark of one scalar
  pub inner_shut : (n : ℕ) (shape : Shape) (c v : ℕ) (cs : List ℕ) (p : ℕ) → mark_after shape ≡ c ∷ [] → ShapeFits n shape [] cs → v ≡ c → Inner n shape (v ∷ cs) p (p + R.stride v)
  unfolding place_after
  inner_shut n shape c v cs p s f h =
      record { mid = []; back = cs; whole = ap (λ (z : ℕ). z ∷ cs) h ∙ ap (λ (z : List ℕ). z ++ cs) (sym s); ends = ap (λ (z : ℕ). p + R.stride z) h ∙ ap (λ (z : List ℕ). place_after R.stride z p) (sym s); fits = f }

  -- a form without one, to the end
  pub inner_open : (n : ℕ) (shape : Shape) (cs : List ℕ) (p : ℕ) → mark_after shape ≡ [] → ShapeFits n shape cs [] → Inner n shape cs p (place_after R.stride cs p)
  unfolding place_after
  inner_open n shape cs p s f =
      record { mid = cs; back = []; whole = sym (append-nil cs) ∙ ap (λ (z : List ℕ). cs ++ (z ++ [])) (sym s); ends = ap (λ (z : List ℕ). place_after R.stride z (place_after R.stride cs p)) (sym s); fits = f }

  pub line_inner : (n : ℕ) (cs : List ℕ) (l p : ℕ) → Inner n line_shape cs p (scan (run_step in_line) R.stride tt l cs p).place
  unfolding scan place_after
  line_inner n [] l p = record { mid = []; back = []; whole = refl; ends = refl; fits = tt }
  line_inner n (v ∷ cs) l p =
      split (eqb v 10) (λ h. rw (h, scan) (record { mid = []; back = v ∷ cs; whole = refl; ends = refl; fits = eqb-true v 10 h }))
      (λ h. rw (h, scan) (inner_more n line_shape v cs p (scan (run_step in_line) R.stride tt p cs (p + R.stride v)).place (line_inner n cs p (p + R.stride v))))

  -- what holds where a scan stopped after a scalar: a family over states that each step keeps
  module _ {S : Type 0} (step : S → ℕ → List ℕ → Act S) (C : S → List ℕ → ℕ → ℕ → Type 0) where
    abbrev Keeps : S → ℕ → List ℕ → ℕ → Act S → Type 0
    Keeps s v cs p (on t) = (e : ℕ) → C t cs (p + R.stride v) e → C s (v ∷ cs) p e
    Keeps s v cs p (before t) = Unit
    Keeps s v cs p (behind t) = C s (v ∷ cs) p (p + R.stride v)

    scan_full : ((s : S) (v : ℕ) (cs : List ℕ) (p : ℕ) → Keeps s v cs p (step s v cs)) → (s : S) (l : ℕ) (cs : List ℕ) (p : ℕ) → (scan step R.stride s l cs p).how ≡ full → C s cs p (scan step R.stride s l cs p).place
    unfolding scan
    scan_full k s l [] p = λ h. never (cc)
    scan_full k s l (v ∷ cs) p =
        by_act (step s v cs)
        (λ t e. rw (e, scan) (λ h. subst (λ (x : Act S). Keeps s v cs p x) e (k s v cs p) (scan step R.stride t p cs (p + R.stride v)).place (scan_full k t p cs (p + R.stride v) h)))
        (λ t e. rw (e, scan) (λ h. never (cc))) (λ t e. rw (e, scan) (λ h. subst (λ (x : Act S). Keeps s v cs p x) e (k s v cs p)))

  pub str_inner : (n : ℕ) (b e : Bool) (st : Quoted) (l : ℕ) (cs : List ℕ) (p : ℕ) → (scan str_step R.stride st l cs p).how ≡ full → Inner n (string_shape b e) cs p (scan str_step R.stride st l cs p).place
  unfolding str_step
  str_inner n b e = scan_full str_step (λ st cs p q. Inner n (string_shape b e) cs p q) keeps
    where
      keeps : (st : Quoted) (v : ℕ) (cs : List ℕ) (p : ℕ) → Keeps str_step (λ st cs p q. Inner n (string_shape b e) cs p q) st v cs p (str_step st v cs)
      keeps (slashed f) v cs p = inner_more n (string_shape b e) v cs p
      keeps (text f) v cs p =
          split (eqb v 34) (λ i. rw (i, str_step) (inner_shut n (string_shape b e) 34 v cs p refl tt (eqb-true v 34 i)))
          (λ i. split (eqb v 92) (λ j. rw (i, j, str_step) (inner_more n (string_shape b e) v cs p)) (λ j. rw (i, j, str_step) (inner_more n (string_shape b e) v cs p)))

  -- a comment: after a star, the star belongs to what is looked at
  abbrev Closed : Closing → List ℕ → ℕ → ℕ → Type 0
  Closed (skips k) cs p e = Inner k (comment_shape true) cs p e
  Closed after_star cs p e = (q : ℕ) → p ≡ q + R.stride 42 → Inner 0 (comment_shape true) (42 ∷ cs) q e

  star_cons : (v : ℕ) (cs : List ℕ) (p e : ℕ) → v ≡ 42 → Closed after_star cs (p + R.stride v) e → Inner 0 (comment_shape true) (v ∷ cs) p e
  star_cons v cs p e h k = subst (λ (z : ℕ). Inner 0 (comment_shape true) (z ∷ cs) p e) (sym h) (k p (ap (λ (z : ℕ). p + R.stride z) h))

  before_star : (cs : List ℕ) (p e q : ℕ) → p ≡ q + R.stride 42 → Inner 0 (comment_shape true) cs p e → Inner 0 (comment_shape true) (42 ∷ cs) q e
  before_star cs p e q z i = inner_more 0 (comment_shape true) 42 cs q e (subst (λ (x : ℕ). Inner 0 (comment_shape true) cs x e) z i)

  star_shut : (v : ℕ) (cs : List ℕ) (p q : ℕ) → v ≡ 47 → p ≡ q + R.stride 42 → Inner 0 (comment_shape true) (42 ∷ (v ∷ cs)) q (p + R.stride v)
  unfolding place_after
  star_shut v cs p q h z = record { mid = []; back = cs; whole = ap (λ (u : ℕ). 42 ∷ (u ∷ cs)) h; ends = (λ j. z j + R.stride (h j)); fits = omega arith }

  pub comment_inner : (st : Closing) (l : ℕ) (cs : List ℕ) (p : ℕ) → (scan comment_step R.stride st l cs p).how ≡ full → Closed st cs p (scan comment_step R.stride st l cs p).place
  unfolding comment_step
  comment_inner = scan_full comment_step Closed keeps
    where
      keeps : (st : Closing) (v : ℕ) (cs : List ℕ) (p : ℕ) → Keeps comment_step Closed st v cs p (comment_step st v cs)
      keeps (skips (suc k)) v cs p = inner_cons k (suc k) (comment_shape true) (λ u m b i. omega arith) v cs p
      keeps (skips zero) v cs p = split (eqb v 42) (λ i. rw (i, comment_step) (λ e. star_cons v cs p e (eqb-true v 42 i))) (λ i. rw (i, comment_step) (inner_more 0 (comment_shape true) v cs p))
      keeps after_star v cs p =
          split (eqb v 47) (λ i. rw (i, comment_step) (λ q z. star_shut v cs p q (eqb-true v 47 i) z))
          (λ i. split (eqb v 42) (λ j. rw (i, j, comment_step) (λ e k q z. before_star (v ∷ cs) p e q z (star_cons v cs p e (eqb-true v 42 j) k)))
          (λ j. rw (i, j, comment_step) (λ e k q z. before_star (v ∷ cs) p e q z (inner_more 0 (comment_shape true) v cs p e k))))

  -- a scan that no scalar stops, and that stopped after none, goes to the end
  abbrev Unshort : {S : Type 0} → Act S → Type 0
  Unshort (on t) = Unit
  Unshort (before t) = ⊥
  Unshort (behind t) = Unit

  scan_whole : {S : Type 0} (step : S → ℕ → List ℕ → Act S) → ((s : S) (v : ℕ) (cs : List ℕ) → Unshort (step s v cs)) → (s : S) (l : ℕ) (cs : List ℕ) (p : ℕ) → closed_by (scan step R.stride s l cs p).how ≡ false → (scan step R.stride s l cs p).place ≡ place_after R.stride cs p
  unfolding scan place_after
  scan_whole step k s l [] p = λ h. refl
  scan_whole {S} step k s l (v ∷ cs) p =
      by_act (step s v cs) (λ t e. rw (e, scan) (scan_whole step k t p cs (p + R.stride v)))
      (λ t e. absurd (subst (λ (x : Act S). Unshort x) e (k s v cs))) (λ t e. rw (e, scan) (λ h. never (cc)))

  pub comment_whole : (st : Closing) (l : ℕ) (cs : List ℕ) (p : ℕ) → closed_by (scan comment_step R.stride st l cs p).how ≡ false → (scan comment_step R.stride st l cs p).place ≡ place_after R.stride cs p
  unfolding comment_step
  comment_whole = scan_whole comment_step long
    where
      long : (st : Closing) (v : ℕ) (cs : List ℕ) → Unshort (comment_step st v cs)
      long (skips (suc k)) v cs = tt
      long (skips zero) v cs = split (eqb v 42) (λ i. rw (i, comment_step) tt) (λ i. rw (i, comment_step) tt)
      long after_star v cs = split (eqb v 47) (λ i. rw (i, comment_step) tt) (λ i. split (eqb v 42) (λ j. rw (i, j, comment_step) tt) (λ j. rw (i, j, comment_step) tt))

  -- a template: what its backslashes read does not matter
  abbrev pub BodyShape : ℕ → ℕ → List ℕ → ℕ → Read → Type 0
  BodyShape n a cs p (Ok k) = (c : Bool) × (k ≡ record { kind = Template c; span = span_of a k.span.end }) × Inner n (template_shape c) cs p k.span.end
  BodyShape n a cs p (Err r) = Unit

  body_cons : (n a : ℕ) (r : Read) (v : ℕ) (cs : List ℕ) (p : ℕ) → BodyShape n a cs (p + R.stride v) r → BodyShape n a (v ∷ cs) p r
  body_cons n a (Ok k) v cs p h = (h.0, h.1, inner_more n (template_shape h.0) v cs p k.span.end h.2)
  body_cons n a (Err r) v cs p h = tt

  on_shape : (n a : ℕ) (r : Read) (go : ℕ → Read) (cs : List ℕ) (p : ℕ) → ((t : ℕ) → BodyShape n a cs p (go t)) → BodyShape n a cs p (go_on a r go)
  on_shape n a (Ok k) go cs p g = g k.span.end
  on_shape n a (Err r) go cs p g = split (eqb (number_in r) 19) (λ e. rw (e, BodyShape) tt) (λ e. rw (e, BodyShape) (g r.reached))

  pub body_inner : (n : ℕ) (next : List ℕ → ℕ → Read) (a t : ℕ) (cs : List ℕ) (p l : ℕ) → BodyShape n a cs p (template_body R next a t cs p l)
  unfolding template_body place_after
  body_inner n next a t [] p l = (false, refl, inner_open n (template_shape false) [] p refl refl)
  body_inner n next a t (v ∷ cs) p l =
      let q = p + R.stride v in
      let go : ℕ → ℕ → Read = λ t' l'. template_body R next a t' cs q l' in
      let more : (t' l' : ℕ) → BodyShape n a (v ∷ cs) p (go t' l') = λ t' l'. body_cons n a (go t' l') v cs p (body_inner n next a t' cs q l') in
      split (ltb p t) (λ h. rw (h, template_body) (more t l))
      (λ h. rw (h, template_body)
      (turn-both next next a a v cs cs q q l go go (λ r r'. BodyShape n a (v ∷ cs) p r) (λ i. (true, refl, inner_shut n (template_shape true) 96 v cs p refl tt i)) (λ m. more 0 m)
      (on_shape n a (next cs q) (λ t'. go t' l) (v ∷ cs) p (λ t'. more t' l))))
