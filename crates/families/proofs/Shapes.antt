-- Every accepted token has no inside, or its scalars are an opening mark, an inside, a closing mark, and more. Assumes nothing.
use Rattle.std.specs.Prelude.{Err, None, Ok, Option, Some}
use Rattle.token.specs.Reads.{Read}
use Rattle.token.specs.Reads.{number_in}
use Prim.Native.Nat.{ℕ, zero, suc, ◌+◌}
use mathlib.Core.Path.{◌≡◌, refl, sym, subst}
use mathlib.Core.List.{List, [], ◌∷◌, ◌++◌}
use mathlib.Core.Bool.{Bool, true, false, not}
use mathlib.Core.Logic.{inl, inr}
use lib.Dec.{eqb}
use borrow.Author.Tests.{eqb-true, not-true}
use Rattle.choice.specs.Rule.{Deep, behind_one, first_of, next_is, token_with}
use Rattle.families.proofs.Insides.{BodyShape, Inner, body_inner, comment_inner, comment_whole, inner_open, line_inner, opened, str_inner}
use Rattle.families.proofs.Pairs.{first-both}
use Rattle.families.specs.Places.{place_after}
use Rattle.families.specs.Shape.{Framed, Shaped, comment_shape, line_shape, mark_before, string_shape, template_shape}
use Rattle.laws.proofs.Cases.{both_inv, never, split}
use Rattle.laws.specs.Bools.{both, pick}
use Rattle.lexer.specs.Next.{close_span, is_shebang, next_of, shebang_of}
use Rattle.numbers.specs.Kinds.{has_inside, number_of}
use Rattle.operators.proofs.Ends.{by_length, found_kind}
use Rattle.operators.specs.Operators.{find_one, find_three, find_two, found_at, look_one, look_three, look_two, ones, operator, operator_of, threes, twos}
use Rattle.readers.specs.Numbers.{number_lit_of}
use Rattle.readers.specs.Readers.{Bytes, Chars, Quoted, backslashed, body, broken, byte_answer, byte_of, byte_step, char_answer, char_of, char_step, closed_by, comment_end, comment_of, comment_step, control, escape, fresh, in_line, letters, line_of, run, run_step, shut, skips, slashed, str_answer, str_of, str_step, text, white_of, word_of}
use Rattle.readers.specs.Rules.{Rules}
use Rattle.readers.specs.Scan.{How, ended, full, scan, short}
use Rattle.templates.proofs.Landing.{deep_of, with_deep}
use Rattle.templates.specs.Body.{template_body, template_of, token_of}
use Rattle.token.specs.declared.kind.Kind.{Kind}
use Rattle.token.specs.declared.kind.Kind.TheVariants.{Comment, Ident, Shebang, Underscore}
use Rattle.token.specs.declared.read.Token.{Token}

-- no operator has an inside
unfoldable all_of : {A : Type 0} → (A → Bool) → List A → Bool
all_of f [] = true
all_of f (x ∷ t) = both (f x) (all_of f t)

module _ (a b c : ℕ) (k : Kind) where
  one_plain : (t : List (ℕ × Kind)) → all_of (λ r. not (has_inside r.1)) t ≡ true → look_one t a ≡ Some k → not (has_inside k) ≡ true
  unfolding look_one all_of
  one_plain [] h = λ q. never (cc)
  one_plain (r ∷ t) h =
      let i = both_inv (not (has_inside r.1)) (all_of (λ r. not (has_inside r.1)) t) h in
      split (eqb a r.0) (λ e. rw e (λ q. let z : r.1 ≡ k = cc in subst (λ (x : Kind). not (has_inside x) ≡ true) z i.0)) (λ e. rw e (one_plain t i.1))

  two_plain : (t : List (ℕ × ℕ × Kind)) → all_of (λ r. not (has_inside r.2)) t ≡ true → look_two t a b ≡ Some k → not (has_inside k) ≡ true
  unfolding look_two all_of
  two_plain [] h = λ q. never (cc)
  two_plain (r ∷ t) h =
      let i = both_inv (not (has_inside r.2)) (all_of (λ r. not (has_inside r.2)) t) h in
      split (both (eqb a r.0) (eqb b r.1)) (λ e. rw e (λ q. let z : r.2 ≡ k = cc in subst (λ (x : Kind). not (has_inside x) ≡ true) z i.0)) (λ e. rw e (two_plain t i.1))

  three_plain : (t : List (ℕ × ℕ × ℕ × Kind)) → all_of (λ r. not (has_inside r.3)) t ≡ true → look_three t a b c ≡ Some k → not (has_inside k) ≡ true
  unfolding look_three all_of
  three_plain [] h = λ q. never (cc)
  three_plain (r ∷ t) h =
      let i = both_inv (not (has_inside r.3)) (all_of (λ r. not (has_inside r.3)) t) h in
      split (both (eqb a r.0) (both (eqb b r.1) (eqb c r.2))) (λ e. rw e (λ q. let z : r.3 ≡ k = cc in subst (λ (x : Kind). not (has_inside x) ≡ true) z i.0)) (λ e. rw e (three_plain t i.1))

module _ (R : Rules) where
  pub op_plain : (v : ℕ) (cs : List ℕ) (p : ℕ) (k : Kind) (e : ℕ) → operator_of R.stride v cs p ≡ Some (operator k e) → has_inside k ≡ false
  unfolding operator_of find_one find_two find_three all_of ones twos threes number_of
  op_plain v cs p k e h =
      by_length R (find_three R.stride v cs p) (find_two R.stride v cs p) (find_one v p) k e h (three cs) (two cs)
      (λ q. not-true (has_inside k) (one_plain v 0 0 k ones refl (found_kind (look_one ones v) p k e q)))
    where
      two : (cs : List ℕ) → find_two R.stride v cs p ≡ Some (operator k e) → has_inside k ≡ false
      two [] q = never (cc)
      two (w ∷ cs) q = not-true (has_inside k) (two_plain v w 0 k twos refl (found_kind (look_two twos v w) (p + R.stride w) k e q))

      three : (cs : List ℕ) → find_three R.stride v cs p ≡ Some (operator k e) → has_inside k ≡ false
      three [] q = never (cc)
      three (w ∷ []) q = never (cc)
      three (w ∷ (x ∷ cs)) q = not-true (has_inside k) (three_plain v w x k threes refl (found_kind (look_three threes v w x) (p + R.stride w + R.stride x) k e q))

  -- answers without an inside
  abbrev Plain : Read → Type 0
  Plain (Ok k) = has_inside k.kind ≡ false
  Plain (Err r) = Unit

  plain_shaped : (cs : List ℕ) (p : ℕ) (r : Read) → Plain r → Shaped R cs p r
  plain_shaped cs p (Ok k) h = inl h
  plain_shaped cs p (Err r) h = tt

  byte_plain : (a : ℕ) (st : Bytes) (l p : ℕ) (h : How) → Plain (byte_answer a st l p h)
  unfolding number_of
  byte_plain a fresh l p h = tt
  byte_plain a backslashed l p h = tt
  byte_plain a control l p h = tt
  byte_plain a body l p full = refl
  byte_plain a body l p ended = tt
  byte_plain a body l p short = tt

  char_plain : (a : ℕ) (st : Chars) (l p : ℕ) → Plain (char_answer a st l p)
  unfolding number_of
  char_plain a escape l p = tt
  char_plain a broken l p = tt
  char_plain a (shut true) l p = refl
  char_plain a (shut false) l p = tt
  char_plain a (letters true true) l p = refl
  char_plain a (letters true false) l p = tt
  char_plain a (letters false true) l p = refl
  char_plain a (letters false false) l p = tt

  word_plain : (b : Bool) → has_inside (pick b Underscore Ident) ≡ false
  unfolding number_of
  word_plain true = refl
  word_plain false = refl

  behind_plain : (f : List ℕ → ℕ → Read) → ((cs : List ℕ) (p : ℕ) → Plain (f cs p)) → (cs : List ℕ) (p : ℕ) → Plain (behind_one R f cs p)
  behind_plain f h [] p = h [] p
  behind_plain f h (v ∷ cs) p = h cs (p + R.stride v)

  -- the scalars that a rule's test found
  one_found : (c v a : ℕ) (cs : List ℕ) (f : List ℕ → ℕ → Read) → eqb v c ≡ true → Shaped R (c ∷ cs) a (f cs (a + R.stride c)) → Shaped R (v ∷ cs) a (f cs (a + R.stride v))
  one_found c v a cs f i h = subst (λ (z : ℕ). Shaped R (z ∷ cs) a (f cs (a + R.stride z))) (sym (eqb-true v c i)) h

  two_found : (c d v a : ℕ) (cs : List ℕ) (f : List ℕ → ℕ → Read) → both (eqb v c) (next_is d cs) ≡ true
      → ((ds : List ℕ) → Shaped R (c ∷ (d ∷ ds)) a (f ds (a + R.stride c + R.stride d))) → Shaped R (v ∷ cs) a (behind_one R f cs (a + R.stride v))
  two_found c d v a [] f i h = never (let z = (both_inv (eqb v c) false i).1 in cc)
  two_found c d v a (w ∷ ds) f i h =
      let b = both_inv (eqb v c) (eqb w d) i in
      subst (λ (z : ℕ × ℕ). Shaped R (z.0 ∷ (z.1 ∷ ds)) a (f ds (a + R.stride z.0 + R.stride z.1))) (λ j. (sym (eqb-true v c b.0) j, sym (eqb-true w d b.1) j)) (h ds)

  line_shaped : (a : ℕ) (ds : List ℕ) → Shaped R (47 ∷ (47 ∷ ds)) a (line_of R.stride Comment a ds (a + R.stride 47 + R.stride 47))
  unfolding line_of run place_after
  line_shaped a ds = let q = a + R.stride 47 + R.stride 47 in inr (opened R line_shape ds a (scan (run_step in_line) R.stride tt q ds q).place (line_inner R R.skip ds q q))

  closed_full : (h : How) → closed_by h ≡ true → h ≡ full
  closed_full full e = refl
  closed_full ended e = never (cc)
  closed_full short e = never (cc)

  comment_shaped : (a : ℕ) (ds : List ℕ) → Shaped R (47 ∷ (42 ∷ ds)) a (comment_of R.stride R.skip a ds (a + R.stride 47 + R.stride 42))
  unfolding comment_of comment_end place_after
  comment_shaped a ds =
      let q = a + R.stride 47 + R.stride 42 in
      let o = scan comment_step R.stride (skips R.skip) q ds q in
      split (closed_by o.how) (λ e. rw e (inr (opened R (comment_shape true) ds a o.place (comment_inner R (skips R.skip) q ds q (closed_full o.how e)))))
      (λ e. rw (e, comment_whole R (skips R.skip) q ds q e) (inr (opened R (comment_shape false) ds a (place_after R.stride ds q) (inner_open R R.skip (comment_shape false) ds q refl refl))))

  str_answer_law : (b : Bool) (a : ℕ) (cs : List ℕ) (st : Quoted) (l p : ℕ) (h : How)
      → ((e : Bool) → h ≡ full → Inner R R.skip (string_shape b e) cs (place_after R.stride (mark_before (string_shape b false)) a) p)
      → Shaped R (mark_before (string_shape b false) ++ cs) a (str_answer b a st l p h)
  str_answer_law b a cs (slashed e) l p h i = tt
  str_answer_law true a cs (text e) l p full i = inr (opened R (string_shape true e) cs a p (i e refl))
  str_answer_law false a cs (text e) l p full i = inr (opened R (string_shape false e) cs a p (i e refl))
  str_answer_law b a cs (text e) l p ended i = tt
  str_answer_law b a cs (text e) l p short i = tt

  str_shaped : (b : Bool) (a : ℕ) (cs : List ℕ) → let q = place_after R.stride (mark_before (string_shape b false)) a in Shaped R (mark_before (string_shape b false) ++ cs) a (str_of R.stride b a cs q)
  unfolding str_of
  str_shaped b a cs =
      let q = place_after R.stride (mark_before (string_shape b false)) a in
      let o = scan str_step R.stride (text false) q cs q in
      str_answer_law b a cs o.state o.last o.place o.how (λ e h. str_inner R R.skip b e (text false) q cs q h)

  template_shaped : (a : ℕ) (cs : List ℕ) (r : Read) → BodyShape R R.skip a cs (a + R.stride 96) r → Shaped R (96 ∷ cs) a r
  unfolding place_after
  template_shaped a cs (Ok k) h = inr (subst (λ (x : Token). Framed R (96 ∷ cs) a x) (sym h.1) (opened R (template_shape h.0) cs a k.span.end h.2))
  template_shaped a cs (Err r) h = tt

  first_shaped : (t : Deep) → ((a : ℕ) (cs : List ℕ) → Shaped R (96 ∷ cs) a (t a cs (a + R.stride 96))) → (v a : ℕ) (cs : List ℕ) → Shaped R (v ∷ cs) a (first_of R t v a cs (a + R.stride v))
  unfolding white_of byte_of word_of number_lit_of char_of number_of place_after
  first_shaped t d v a cs =
      let p = a + R.stride v in
      first-both R R t t v a a cs cs p p (λ r r'. Shaped R (v ∷ cs) a r) (λ c. refl) refl (inl refl)
      (λ i. two_found 47 47 v a cs (line_of R.stride Comment a) i (line_shaped a)) (λ i. two_found 47 42 v a cs (comment_of R.stride R.skip a) i (comment_shaped a))
      (λ i. plain_shaped (v ∷ cs) a (behind_one R (byte_of R.stride a) cs p) (behind_plain (byte_of R.stride a) (λ ds q. let o = scan byte_step R.stride fresh q ds q in byte_plain a o.state o.last o.place o.how) cs p))
      (λ i. two_found 98 34 v a cs (str_of R.stride true a) i (str_shaped true a)) (λ i. one_found 34 v a cs (str_of R.stride false a) i (str_shaped false a cs))
      (λ k e q. inl (op_plain v cs p k e q)) (λ q. q) (inl (word_plain (both (eqb v 95) (eqb (run R.stride R.continue cs p) p)))) (inl refl)
      (let o = scan char_step R.stride (letters true false) p cs p in plain_shaped (v ∷ cs) a (char_of R.stride a cs p) (char_plain a o.state o.last o.place))
      (λ i. one_found 96 v a cs (t a) i (d a cs)) tt

  deep_shaped : (d a : ℕ) (cs : List ℕ) → Shaped R (96 ∷ cs) a (deep_of R d a cs (a + R.stride 96))
  unfolding deep_of template_of
  deep_shaped zero a cs = tt
  deep_shaped (suc d) a cs = let q = a + R.stride 96 in template_shaped a cs (template_body R (token_of R d) a 0 cs q 0) (body_inner R R.skip (token_of R d) a 0 cs q 0)

  pub token_shaped : (d : ℕ) (cs : List ℕ) (p : ℕ) → Shaped R cs p (token_of R d cs p)
  unfolding token_with number_of
  token_shaped d [] p = rw (with_deep R d [] p) (inl refl)
  token_shaped d (v ∷ cs) p = rw (with_deep R d (v ∷ cs) p) (first_shaped (deep_of R d) (deep_shaped d) v p cs)

  close_shaped : (n : ℕ) (cs : List ℕ) (p : ℕ) (r : Read) → Shaped R cs p r → Shaped R cs p (close_span n r)
  close_shaped n cs p (Ok k) h = h
  close_shaped n cs p (Err r) h = split (eqb (number_in r) 12) (λ e. rw (e, Shaped) tt) (λ e. rw (e, Shaped) tt)

  pub next_shaped : (n : ℕ) (cs : List ℕ) (p : ℕ) → Shaped R cs p (next_of R n cs p)
  unfolding next_of line_of number_of
  next_shaped n cs p =
      split (both (eqb p 0) (is_shebang cs))
      (λ e. rw e (plain_shaped cs p (shebang_of R cs p) (behind_plain (λ ds q. behind_one R (line_of R.stride Shebang p) ds q) (behind_plain (line_of R.stride Shebang p) (λ ds q. refl)) cs p)))
      (λ e. rw e (close_shaped n cs p (token_of R 64 cs p) (token_shaped 64 cs p)))
