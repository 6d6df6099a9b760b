-- A token with an inside reads the same with x in place of the inside, but for the escape mark. Assumes nothing.
use Prim.Native.Nat.{ℕ, zero, suc, ◌+◌, ◌-◌, ◌≤◌}
use mathlib.Core.Path.{◌≡◌, refl, sym, ap, ◌∙◌}
use mathlib.Core.List.{List, [], ◌∷◌, ◌++◌}
use mathlib.Core.Bool.{Bool, true, false}
use native.Mathlib.Omega.{arith}
use lib.ListN.{length, length-replicate}
use borrow.Author.Tests.{eq-eqb, le-ltb}
use Rattle.choice.specs.Rule.{Deep, first_of, left_of, other_of, token_with}
use Rattle.classes.specs.Classes.{white_space}
use Rattle.families.proofs.Nearby.{near_end}
use Rattle.families.specs.Near.{Near}
use Rattle.families.specs.Places.{place_after}
use Rattle.families.specs.Sane.{Sane}
use Rattle.families.specs.Shape.{LineEnd, Shape, ShapeFits, comment_shape, line_shape, mark_after, mark_before, plain_shape, shape_kind, string_shape, template_shape, xs}
use Rattle.laws.specs.Tables.{in_ranges}
use Rattle.operators.specs.Operators.{find_one, find_three, find_two, look_one, look_three, look_two, ones, operator_of, threes, twos}
use Rattle.readers.specs.Readers.{Closing, closed_by, comment_end, comment_of, comment_step, in_line, line_of, run, run_step, skips, str_kind, str_of, str_step, text}
use Rattle.readers.specs.Rules.{Rules}
use Rattle.readers.specs.Scan.{Act, Stop, on, scan}
use Rattle.templates.specs.Body.{template_body, template_of, template_turn, token_of}
use Rattle.token.specs.Reads.{got_of, Read}
use Rattle.token.specs.declared.kind.Kind.TheVariants.{Comment, MultilineComment, Template}

-- near scalars after it and at least as many x as there were scalars fit where the inside did
pub near_fits : (n : ℕ) (shape : Shape) (mid back : List ℕ) (j : ℕ) (y : List ℕ) → ShapeFits n shape mid back → length mid ≤ j → Near back y → ShapeFits n shape (xs j) y
near_fits n line_shape mid [] j [] f l h = tt
near_fits n line_shape mid [] j (w ∷ y) f l h = absurd h
near_fits n line_shape mid (v ∷ x) j [] f l h = absurd h
near_fits n line_shape mid (v ∷ x) j (w ∷ y) f l h = sym h.0 ∙ f
near_fits n (comment_shape true) mid back j y f l h = let e = length-replicate {A = ℕ} j 120 in omega arith
near_fits n (comment_shape false) mid back j y f l h = near_end back y f h
near_fits n (string_shape b e) mid back j y f l h = tt
near_fits n (template_shape true) mid back j y f l h = tt
near_fits n (template_shape false) mid back j y f l h = near_end back y f h

module _ (R : Rules) where
  -- over x, in a state that x does not change
  scan_xs : {S : Type 0} (step : S → ℕ → List ℕ → Act S) (s : S) → ((cs : List ℕ) → step s 120 cs ≡ on s) → (j l : ℕ) (x : List ℕ) (p : ℕ)
      → (l' : ℕ) × (scan step R.stride s l (xs j ++ x) p ≡ scan step R.stride s l' x (place_after R.stride (xs j) p))
  unfolding scan place_after
  scan_xs step s h zero l x p = (l, refl)
  scan_xs step s h (suc j) l x p = rw (h (xs j ++ x), scan) (scan_xs step s h j p x (p + R.stride 120))

  comment_xs : (k j l : ℕ) (x : List ℕ) (p : ℕ) → (l' : ℕ) × (scan comment_step R.stride (skips k) l (xs j ++ x) p ≡ scan comment_step R.stride (skips (k - j)) l' x (place_after R.stride (xs j) p))
  unfolding scan comment_step place_after
  comment_xs k zero l x p = let e : k ≡ k - 0 = omega arith in (l, ap (λ (m : ℕ). scan comment_step R.stride (skips m) l x p) e)
  comment_xs zero (suc j) l x p =
      let r = comment_xs zero j p x (p + R.stride 120) in let e : 0 - j ≡ 0 - suc j = omega arith in
      (r.0, r.1 ∙ ap (λ (m : ℕ). scan comment_step R.stride (skips m) r.0 x (place_after R.stride (xs j) (p + R.stride 120))) e)
  comment_xs (suc k) (suc j) l x p =
      let r = comment_xs k j p x (p + R.stride 120) in let e : k - j ≡ suc k - suc j = omega arith in
      (r.0, r.1 ∙ ap (λ (m : ℕ). scan comment_step R.stride (skips m) r.0 x (place_after R.stride (xs j) (p + R.stride 120))) e)

  body_xs : (next : List ℕ → ℕ → Read) (a j : ℕ) (x : List ℕ) (p : ℕ) → template_body R next a 0 (xs j ++ x) p 0 ≡ template_body R next a 0 x (place_after R.stride (xs j) p) 0
  unfolding template_body template_turn place_after
  body_xs next a zero x p = refl
  body_xs next a (suc j) x p = rw (le-ltb p 0 (omega arith), template_body) (body_xs next a j x (p + R.stride 120))

  -- the readers, from after an opening mark on
  module _ (a j : ℕ) (p : ℕ) where
    line_painted : (x : List ℕ) → LineEnd x → line_of R.stride Comment a (xs j ++ x) p ≡ got_of Comment a (place_after R.stride (xs j) p)
    unfolding line_of run scan
    line_painted x f = let r = scan_xs (run_step in_line) tt (λ cs. refl) j p x p in ap (λ (o : Stop Unit). got_of Comment a o.place) r.1 ∙ ends x f r.0 (place_after R.stride (xs j) p)
      where
        ends : (x : List ℕ) → LineEnd x → (l q : ℕ) → got_of Comment a (scan (run_step in_line) R.stride tt l x q).place ≡ got_of Comment a q
        ends [] f l q = refl
        ends (v ∷ x) f l q = rw (eq-eqb v 10 f, scan) refl

    -- a comment's answer, of where its scan stopped
    abbrev comment_read : Stop Closing → Read
    comment_read o = got_of (MultilineComment (closed_by o.how)) a o.place

    comment_painted : (x : List ℕ) → R.skip ≤ j → comment_of R.stride R.skip a (xs j ++ (42 ∷ (47 ∷ x))) p ≡ got_of (MultilineComment true) a (place_after R.stride (xs j) p + R.stride 42 + R.stride 47)
    unfolding comment_of comment_end scan comment_step
    comment_painted x f =
        let r = comment_xs R.skip j p (42 ∷ (47 ∷ x)) p in let e : R.skip - j ≡ 0 = omega arith in
        ap comment_read (r.1 ∙ ap (λ (m : ℕ). scan comment_step R.stride (skips m) r.0 (42 ∷ (47 ∷ x)) (place_after R.stride (xs j) p)) e)

    comment_open : comment_of R.stride R.skip a (xs j ++ []) p ≡ got_of (MultilineComment false) a (place_after R.stride (xs j) p)
    unfolding comment_of comment_end scan
    comment_open = ap comment_read (comment_xs R.skip j p [] p).1

    str_painted : (b : Bool) (x : List ℕ) → str_of R.stride b a (xs j ++ (34 ∷ x)) p ≡ got_of (str_kind b false) a (place_after R.stride (xs j) p + R.stride 34)
    unfolding str_of scan str_step
    str_painted b x = rw (scan_xs str_step (text false) (λ cs. refl) j p (34 ∷ x) p).1 refl

    module _ (next : List ℕ → ℕ → Read) where
      template_painted : (x : List ℕ) → template_body R next a 0 (xs j ++ (96 ∷ x)) p 0 ≡ got_of (Template true) a (place_after R.stride (xs j) p + R.stride 96)
      unfolding template_body template_turn
      template_painted x = body_xs next a j (96 ∷ x) p ∙ rw (le-ltb (place_after R.stride (xs j) p) 0 (omega arith), template_body) refl

      template_open : template_body R next a 0 (xs j ++ []) p 0 ≡ got_of (Template false) a (place_after R.stride (xs j) p)
      unfolding template_body
      template_open = body_xs next a j [] p

  -- a backtick is read by no other rule
  tick_deep : Sane R → (t : Deep) (a : ℕ) (cs : List ℕ) (p : ℕ) → first_of R t 96 a cs p ≡ t a cs p
  unfolding first_of other_of left_of operator_of find_one find_two find_three look_one look_two look_three ones twos threes in_ranges white_space
  tick_deep sane t a [] p = rw sane.tick
  tick_deep sane t a (w ∷ []) p = rw sane.tick
  tick_deep sane t a (w ∷ (x ∷ cs)) p = rw sane.tick

  module _ (sane : Sane R) (d : ℕ) where
    by_rule : (v : ℕ) (cs : List ℕ) (p : ℕ) → token_of R (suc d) (v ∷ cs) p ≡ first_of R (template_of R (token_of R d)) v p cs (p + R.stride v)
    unfolding token_of token_with
    by_rule v cs p = refl

    pub token_painted : (shape : Shape) (j : ℕ) (x : List ℕ) (p : ℕ) → ShapeFits R.skip shape (xs j) x
        → token_of R (suc d) (mark_before shape ++ (xs j ++ (mark_after shape ++ x))) p
        ≡ got_of (shape_kind (plain_shape shape)) p (place_after R.stride (mark_after shape) (place_after R.stride (xs j) (place_after R.stride (mark_before shape) p)))
    unfolding first_of place_after in_ranges white_space template_of
    token_painted line_shape j x p f = by_rule 47 (47 ∷ (xs j ++ x)) p ∙ line_painted p j (p + R.stride 47 + R.stride 47) x f
    token_painted (comment_shape true) j x p f =
        by_rule 47 (42 ∷ (xs j ++ (42 ∷ (47 ∷ x)))) p ∙ comment_painted p j (p + R.stride 47 + R.stride 42) x (let e = length-replicate {A = ℕ} j 120 in omega arith)
    token_painted (comment_shape false) j x p f =
        ap (λ (z : List ℕ). token_of R (suc d) (47 ∷ (42 ∷ (xs j ++ z))) p) f ∙ by_rule 47 (42 ∷ (xs j ++ [])) p ∙ comment_open p j (p + R.stride 47 + R.stride 42)
    token_painted (string_shape false e) j x p f = by_rule 34 (xs j ++ (34 ∷ x)) p ∙ str_painted p j (p + R.stride 34) false x
    token_painted (string_shape true e) j x p f = by_rule 98 (34 ∷ (xs j ++ (34 ∷ x))) p ∙ str_painted p j (p + R.stride 98 + R.stride 34) true x
    token_painted (template_shape true) j x p f =
        by_rule 96 (xs j ++ (96 ∷ x)) p ∙ tick_deep sane (template_of R (token_of R d)) p (xs j ++ (96 ∷ x)) (p + R.stride 96) ∙ template_painted p j (p + R.stride 96) (token_of R d) x
    token_painted (template_shape false) j x p f =
        ap (λ (z : List ℕ). token_of R (suc d) (96 ∷ (xs j ++ z)) p) f ∙ by_rule 96 (xs j ++ []) p
        ∙ tick_deep sane (template_of R (token_of R d)) p (xs j ++ []) (p + R.stride 96) ∙ template_open p j (p + R.stride 96) (token_of R d)
