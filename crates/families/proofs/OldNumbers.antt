-- Where no `e` or `E` is followed by a sign, every token is the one of document 01's own rule for numbers. Assumes nothing.
use Rattle.std.specs.Prelude.{Err, Ok}
use Prim.Native.Nat.{ℕ, zero, suc, ◌+◌}
use mathlib.Core.Path.{◌≡◌, refl, sym, ap, ◌∙◌}
use mathlib.Core.List.{List, [], ◌∷◌}
use mathlib.Core.Bool.{Bool, true, false, not}
use lib.Dec.{ltb, eqb}
use lib.ListN.{length}
use borrow.Author.Tests.{eqb-true, not-true}
use Rattle.choice.specs.Rule.{Deep, behind_one, first_of, other_of, token_with}
use Rattle.families.proofs.Pairs.{bang_same, behind_same, first-both, turn-both}
use Rattle.families.specs.Exponents.{begins_sign, none_signed, plain_numbers}
use Rattle.families.specs.Tokens.{Tokens, each_of, more, tokens_at, tokens_of}
use Rattle.laws.proofs.Cases.{both_false, both_inv, never, split}
use Rattle.laws.specs.Bools.{both}
use Rattle.lexer.specs.Next.{close_span, is_shebang, next_of}
use Rattle.readers.proofs.Steps.{number_bare, number_dot, number_more, number_other}
use Rattle.readers.specs.Numbers.{begins_digit, first_part, in_digits, in_number, is_base, is_e, joins, number_end, number_lit_of, number_step, part_on, part_past_dot, past_digits, plain_step, takes_sign, unsigned}
use Rattle.readers.specs.Readers.{byte_of, comment_of, line_of, str_of}
use Rattle.readers.specs.Rules.{Rules, rules_of}
use Rattle.readers.specs.Scan.{Stride, before, on, scan}
use Rattle.readers.specs.declared.number.Part.{Part}
use Rattle.readers.specs.declared.number.Part.TheVariants.{Based, Digits, Exponent, Mixed, Zero}
use Rattle.readers.specs.declared.reading.Reading.{Reading}
use Rattle.templates.proofs.Landing.{deep_of, with_deep}
use Rattle.templates.specs.Body.{go_on, template_body, template_of, token_of}
use Rattle.text.specs.Utf8.{rest}
use Rattle.token.specs.Reads.{got_of, Read, number_in}
use Rattle.token.specs.declared.kind.Kind.TheVariants.{Comment, Number}

-- what stands after a part that takes a sign is none
abbrev Calm : Part → List ℕ → Type 0
Calm r cs = takes_sign r ≡ true → begins_sign cs ≡ false

module _ (v : ℕ) (cs : List ℕ) (h : both (is_e v) (begins_sign cs) ≡ false) where
  calm_digits : Calm (past_digits v) cs
  calm_digits = split (in_digits v) (λ e. rw e (λ i. never (cc))) (λ e. rw e (split (is_e v) (λ f. rw f (λ i. (rw f at h))) (λ f. rw f (λ i. never (cc)))))

  calm_on : (r : Part) → Calm (part_on r v) cs
  calm_on Zero = split (is_base v) (λ e. rw e (λ i. never (cc))) (λ e. rw e calm_digits)
  calm_on Digits = calm_digits
  calm_on Exponent = λ i. never (cc)
  calm_on Mixed = λ i. never (cc)
  calm_on Based = λ i. never (cc)

calm_first : (v : ℕ) (cs : List ℕ) → Calm (first_part v) cs
calm_first v cs = split (eqb v 48) (λ e. rw e (λ i. never (cc))) (λ e. rw e (λ i. never (cc)))

calm_dot : (r : Part) (cs : List ℕ) → Calm (part_past_dot r) cs
calm_dot Zero cs = λ i. never (cc)
calm_dot Digits cs = λ i. never (cc)
calm_dot Exponent cs = λ i. never (cc)
calm_dot Mixed cs = λ i. never (cc)
calm_dot Based cs = λ i. never (cc)

-- so it joins nothing but a `.`
calm_joins : (b : Bool) (r : Part) (v : ℕ) (cs : List ℕ) → Calm r (v ∷ cs) → eqb v 46 ≡ false → joins b r v ≡ false
calm_joins b r v cs c d = split (takes_sign r) (λ e. let z = c e in rw (d, z)) (λ e. rw (d, e, both_false))

module _ (b : Bool) (v : ℕ) (cs : List ℕ) where
  plain_more : in_number v ≡ true → plain_step b v cs ≡ on b
  unfolding plain_step
  plain_more h = rw (h, plain_step)

  plain_other : in_number v ≡ false → both b (both (eqb v 46) (begins_digit cs)) ≡ false → plain_step b v cs ≡ before b
  unfolding plain_step
  plain_other h k = rw (h, k, plain_step)

  plain_dot : in_number v ≡ false → both b (both (eqb v 46) (begins_digit cs)) ≡ true → plain_step b v cs ≡ on false
  unfolding plain_step
  plain_dot h k = rw (h, k, plain_step)

-- nothing is left of the first scalar's test for the scalars after it
none_tail : (v : ℕ) (cs : List ℕ) → none_signed (v ∷ cs) ≡ true → (both (is_e v) (begins_sign cs) ≡ false) × (none_signed cs ≡ true)
unfolding none_signed
none_tail v cs n = let z = both_inv (not (both (is_e v) (begins_sign cs))) (none_signed cs) n in (not-true _ z.0, z.1)

module _ (w : Stride) where
  end_old : (b : Bool) (r : Part) (l l' : ℕ) (cs : List ℕ) (p : ℕ) → none_signed cs ≡ true → Calm r cs → (scan plain_step w b l' cs p).place ≡ (scan number_step w (unsigned b r) l cs p).place
  unfolding scan
  end_old b r l l' [] p n c = refl
  end_old b r l l' (v ∷ cs) p n c =
      let z = none_tail v cs n in
      split (in_number v)
      (λ i. rw (plain_more b v cs i, number_more v cs b r i, scan) (end_old b (part_on r v) p p cs (p + w v) z.1 (calm_on v cs z.0 r)))
      (λ i. split (eqb v 46) (λ d. at_dot b i d (end_old false (part_past_dot r) p p cs (p + w v) z.1 (calm_dot r cs)))
      (λ d. rw (plain_other b v cs i (rw (d, both_false)), number_other v cs b r i (calm_joins b r v cs c d), scan) refl))
    where
      at_dot : (b : Bool) → in_number v ≡ false → eqb v 46 ≡ true → (scan plain_step w false p cs (p + w v)).place ≡ (scan number_step w (unsigned false (part_past_dot r)) p cs (p + w v)).place
          → (scan plain_step w b l' (v ∷ cs) p).place ≡ (scan number_step w (unsigned b r) l (v ∷ cs) p).place
      at_dot false i d further = rw (plain_other false v cs i refl, number_other v cs false r i (rw d), scan) refl
      at_dot true i d further =
          split (begins_digit cs)
          (λ k. rw (plain_dot true v cs i (rw (d, k)), number_dot v cs true r i (rw d) k (eqb-true v 46 d), scan) further)
          (λ k. rw (plain_other true v cs i (rw (d, k)), number_bare v cs true r i (rw d) k, scan) refl)

  number_old : (e : Bool) (v a : ℕ) (cs : List ℕ) (p : ℕ) → none_signed cs ≡ true → number_lit_of w false v a cs p ≡ number_lit_of w e v a cs p
  unfolding number_lit_of number_end
  number_old true v a cs p n = ap (got_of Number a) (end_old true (first_part v) p p cs p n (calm_first v cs))
  number_old false v a cs p n = refl

module _ (R : Rules) where
  abbrev Plain : Rules
  Plain = plain_numbers R

  first_old : (t t' : Deep) (v a : ℕ) (cs : List ℕ) (p : ℕ) → none_signed cs ≡ true → t' a cs p ≡ t a cs p → first_of Plain t' v a cs p ≡ first_of R t v a cs p
  unfolding other_of
  first_old t t' v a cs p n d =
      let past : (f : List ℕ → ℕ → Read) → behind_one Plain f cs p ≡ behind_one R f cs p = λ f. behind_same R Plain refl f cs p in
      first-both R Plain t t' v a a cs cs p p (λ r r'. r' ≡ r) (λ c. refl) refl refl (λ h. past (line_of R.stride Comment a)) (λ h. past (comment_of R.stride R.skip a))
      (λ h. past (byte_of R.stride a)) (λ h. past (str_of R.stride true a)) (λ h. refl) (λ k e q. rw q) (λ q. q) refl (number_old R.stride R.exponents v a cs p n) refl (λ h. d) refl

  on_old : (a : ℕ) (r r' : Read) (go go' : ℕ → Read) → r' ≡ r → ((t : ℕ) → go' t ≡ go t) → go_on a r' go' ≡ go_on a r go
  on_old a (Ok k) r' go go' e g = rw e (g k.span.end)
  on_old a (Err k) r' go go' e g = rw e (split (eqb (number_in k) 19) (λ i. rw (i, go_on) refl) (λ i. rw (i, go_on) (g k.reached)))

  module _ (next next' : List ℕ → ℕ → Read) (h : (cs : List ℕ) (p : ℕ) → none_signed cs ≡ true → next' cs p ≡ next cs p) (a : ℕ) where
    body_old : (t : ℕ) (cs : List ℕ) (p l : ℕ) → none_signed cs ≡ true → template_body Plain next' a t cs p l ≡ template_body R next a t cs p l
    unfolding template_body
    body_old t [] p l n = refl
    body_old t (v ∷ cs) p l n =
        let q = p + R.stride v in
        let m = (none_tail v cs n).1 in
        let go : ℕ → ℕ → Read = λ t' l'. template_body R next a t' cs q l' in
        let go' : ℕ → ℕ → Read = λ t' l'. template_body Plain next' a t' cs q l' in
        split (ltb p t) (λ e. rw (e, template_body) (body_old t cs q l m))
        (λ e. rw (e, template_body)
        (turn-both next next' a a v cs cs q q l go go' (λ r r'. r' ≡ r) (λ i. refl) (λ k. body_old 0 cs q k m)
        (on_old a (next cs q) (next' cs q) (λ t'. go t' l) (λ t'. go' t' l) (h cs q m) (λ t'. body_old t' cs q l m))))

  with_old : (d : ℕ) → ((a : ℕ) (cs : List ℕ) (p : ℕ) → none_signed cs ≡ true → deep_of Plain d a cs p ≡ deep_of R d a cs p) → (cs : List ℕ) (p : ℕ) → none_signed cs ≡ true → token_of Plain d cs p ≡ token_of R d cs p
  unfolding token_with
  with_old d h [] p n = with_deep Plain d [] p ∙ sym (with_deep R d [] p)
  with_old d h (v ∷ cs) p n =
      let m = (none_tail v cs n).1 in
      let q = p + R.stride v in
      with_deep Plain d (v ∷ cs) p ∙ first_old (deep_of R d) (deep_of Plain d) v p cs q m (h p cs q m) ∙ sym (with_deep R d (v ∷ cs) p)

  token_old : (d : ℕ) (cs : List ℕ) (p : ℕ) → none_signed cs ≡ true → token_of Plain d cs p ≡ token_of R d cs p
  unfolding deep_of template_of
  token_old zero = with_old 0 (λ a cs p n. refl)
  token_old (suc d) = with_old (suc d) (λ a cs p n. body_old (token_of R d) (token_of Plain d) (token_old d) a 0 cs p 0 n)

  pub next_old : (m : ℕ) (cs : List ℕ) (p : ℕ) → none_signed cs ≡ true → next_of Plain m cs p ≡ next_of R m cs p
  unfolding next_of
  next_old m cs p n = split (both (eqb p 0) (is_shebang cs)) (λ e. rw e (bang_same R Plain refl cs p)) (λ e. rw e (ap (close_span m) (token_old 64 cs p n)))

  each_old : (r : Read) (go go' : ℕ → Tokens) → ((t : ℕ) → go' t ≡ go t) → each_of r go' ≡ each_of r go
  each_old (Err r) go go' g = refl
  each_old (Ok k) go go' g = ap (more k) (g k.span.end)

  tokens_old : (m t : ℕ) (cs : List ℕ) (p : ℕ) → none_signed cs ≡ true → tokens_of Plain m t cs p ≡ tokens_of R m t cs p
  unfolding tokens_of
  tokens_old m t [] p n = refl
  tokens_old m t (v ∷ cs) p n =
      let q = p + R.stride v in
      let k = (none_tail v cs n).1 in
      let go : ℕ → Tokens = λ t'. tokens_of R m t' cs q in
      let go' : ℕ → Tokens = λ t'. tokens_of Plain m t' cs q in
      split (ltb p t) (λ e. rw (e, tokens_of) (tokens_old m t cs q k))
      (λ e. rw (e, tokens_of)
      (ap (λ (r : Read). each_of r go') (next_old m (v ∷ cs) p n) ∙ each_old (next_of R m (v ∷ cs) p) go go' (λ t'. tokens_old m t' cs q k)))

-- document 02, A2: of a source
pub old_numbers : (g : Reading) (s : List ℕ) (p : ℕ) → none_signed (rest s p) ≡ true → tokens_at (rules_of g) s p ≡ tokens_at (plain_numbers (rules_of g)) s p
unfolding tokens_at
old_numbers g s p n = sym (tokens_old (rules_of g) (length s) 0 (rest s p) p n)
