-- Only a comment or a template is read otherwise under First. Assumes nothing.
use Rattle.std.specs.Prelude.{Err, Ok}
use Rattle.token.specs.Reads.{Read}
use Rattle.token.specs.Reads.{number_in}
use Prim.Native.Nat.{ℕ, zero, suc, ◌+◌, ◌≤◌, ◌<◌}
use mathlib.Core.Path.{◌≡◌, refl, sym, ap, ◌∙◌}
use mathlib.Core.List.{List, [], ◌∷◌}
use mathlib.Core.Bool.{true, false}
use mathlib.Core.Logic.{inl, inr, ◌⊎◌, ⊎_elim}
use native.Mathlib.Omega.{arith}
use lib.Dec.{leb, eqb}
use lib.ListN.{length}
use borrow.Author.Tests.{eq-eqb, eqb-true, le-leb, ne_eqb}
use Rattle.choice.specs.Rule.{behind_one, first_of, other_of, token_with}
use Rattle.families.proofs.Pairs.{bang_same, behind_same, first-both}
use Rattle.families.proofs.Switch.{Templated, body_templated}
use Rattle.findings.specs.Findings.{under_first}
use Rattle.findings.specs.InStep.{parts_of}
use Rattle.laws.proofs.Cases.{either_false, never, split, within_low}
use Rattle.laws.specs.Bools.{both}
use Rattle.lexer.specs.Next.{close_span, is_shebang, next_at, next_of}
use Rattle.numbers.specs.Kinds.{number_of}
use Rattle.readers.specs.Readers.{byte_of, comment_end, comment_of, line_of, str_of}
use Rattle.readers.specs.Rules.{Rules, first_close, rules_of, rune}
use Rattle.readers.specs.declared.reading.Comments.{Comments}
use Rattle.readers.specs.declared.reading.Comments.TheVariants.{Crate, First}
use Rattle.readers.specs.declared.reading.Reading.{Reading}
use Rattle.templates.proofs.Landing.{deep_of, with_deep}
use Rattle.templates.specs.Body.{template_body, template_of, token_of}
use Rattle.text.specs.Utf8.{rest, width}
use Rattle.token.specs.declared.kind.Kind.TheVariants.{Comment}
use Rattle.token.specs.declared.read.Token.{Token}

abbrev pub Parted : Read → Type 0
Parted r = parts_of r ≡ true

-- the second is what the first is, or the first is one of these
abbrev Kept : Read → Read → Type 0
Kept r r' = (r' ≡ r) ⊎ Parted r

comment_parted : (k a : ℕ) (cs : List ℕ) (p : ℕ) → Parted (comment_of width k a cs p)
unfolding comment_of number_of
comment_parted k a cs p = split (comment_end width k cs p).closed (λ e. rw e refl) (λ e. rw e refl)

behind_parted : (R : Rules) (k a : ℕ) (cs : List ℕ) (p : ℕ) → Parted (behind_one R (comment_of width k a) cs p)
behind_parted R k a [] p = comment_parted k a [] p
behind_parted R k a (v ∷ cs) p = comment_parted k a cs (p + R.stride v)

templated : (r : Read) → Templated r → Parted r
templated (Ok k) h = rw h refl
templated (Err r) h = eq-eqb (number_in r) 19 h

deep_parted : (d a : ℕ) (cs : List ℕ) (p : ℕ) → Parted (deep_of (rules_of rune) d a cs p)
unfolding deep_of template_of
deep_parted zero a cs p = refl
deep_parted (suc d) a cs p = templated (template_body (rules_of rune) (token_of (rules_of rune) d) a 0 cs p 0) (body_templated (rules_of rune) (token_of (rules_of rune) d) a 0 cs p 0)

first_kept : (d v : ℕ) (cs : List ℕ) (p : ℕ) → let F = rules_of first_close in let N = rules_of rune in
    Kept (first_of N (deep_of N d) v p cs (p + width v)) (first_of F (deep_of F d) v p cs (p + width v))
unfolding other_of
first_kept d v cs p =
    first-both N F (deep_of N d) (deep_of F d) v p p cs cs q q Kept (λ c. refl) refl (inl refl)
    (λ h. inl (sym (behind_same F N refl (line_of width Comment p) cs q))) (λ h. inr (behind_parted N 2 p cs q))
    (λ h. inl (sym (behind_same F N refl (byte_of width p) cs q))) (λ h. inl (sym (behind_same F N refl (str_of width true p) cs q))) (λ h. inl refl) (λ k e o. inl (rw o)) (λ o. o)
    (inl refl) (inl refl) (inl refl) (λ h. inr (deep_parted d p cs q)) (inl refl)
  where
    F : Rules
    F = rules_of first_close

    N : Rules
    N = rules_of rune

    q : ℕ
    q = p + width v

token_kept : (d : ℕ) (cs : List ℕ) (p : ℕ) → Kept (token_of (rules_of rune) d cs p) (token_of (rules_of first_close) d cs p)
unfolding token_with
token_kept d [] p = rw (with_deep (rules_of first_close) d [] p, with_deep (rules_of rune) d [] p) (inl refl)
token_kept d (v ∷ cs) p = rw (with_deep (rules_of first_close) d (v ∷ cs) p, with_deep (rules_of rune) d (v ∷ cs) p) (first_kept d v cs p)

-- the span of 12 has no part in it
close_parted : (n : ℕ) (r : Read) → Parted r → Parted (close_span n r)
close_parted n (Ok k) h = h
close_parted n (Err r) h = let i = eqb-true (number_in r) 19 h in rw (ne_eqb (number_in r) 12 (λ e. omega arith)) h

close_kept : (n : ℕ) (r r' : Read) → Kept r r' → Kept (close_span n r) (close_span n r')
close_kept n r r' (inl e) = inl (ap (close_span n) e)
close_kept n r r' (inr h) = inr (close_parted n r h)

next_kept : (n : ℕ) (cs : List ℕ) (p : ℕ) → Kept (next_of (rules_of rune) n cs p) (next_of (rules_of first_close) n cs p)
unfolding next_of
next_kept n cs p =
    split (both (eqb p 0) (is_shebang cs)) (λ e. rw e (inl (sym (bang_same (rules_of first_close) (rules_of rune) refl cs p))))
    (λ e. rw e (close_kept n (token_of (rules_of rune) 64 cs p) (token_of (rules_of first_close) 64 cs p) (token_kept 64 cs p)))

by_comments : (c : Comments) (s : List ℕ) (p : ℕ) → (next_at first_close s p ≡ next_at (record { comments = c }) s p) ⊎ Parted (next_at (record { comments = c }) s p)
unfolding next_at
by_comments Crate s p = next_kept (length s) (rest s p) p
by_comments First s p = inl refl

-- what is read at a place is read there under First too, or is a comment or a template
pub only_comments_part : (g : Reading) (s : List ℕ) (p : ℕ) → (next_at (under_first g) s p ≡ next_at g s p) ⊎ Parted (next_at g s p)
only_comments_part g s p = by_comments g.comments s p

-- the test, as the code makes it
module _ (k : Token) (n : ℕ) (e : n ≡ number_of k.kind) where
  pub parts_template : n ≡ 16 → true ≡ parts_of (Ok k)
  parts_template h = rw (← e, h) refl

  module _ (h : n ≡ 16 → ⊥) where
    pub parts_low : n < 3 → false ≡ parts_of (Ok k)
    parts_low l = rw (← e) (rw (within_low 3 4 n l, ne_eqb n 16 h) refl)

    pub parts_rest : 3 ≤ n → leb n 4 ≡ parts_of (Ok k)
    parts_rest l = rw (← e) (rw (le-leb 3 n l, ne_eqb n 16 h) (sym (either_false (leb n 4))))

-- what cannot part is the same under First
pub under_same : (g : Reading) (s : List ℕ) (p : ℕ) (a : Read) → a ≡ next_at g s p → parts_of a ≡ false → a ≡ next_at (under_first g) s p
under_same g s p a e h = ⊎_elim (λ (i : next_at (under_first g) s p ≡ next_at g s p). e ∙ sym i) (λ (i : Parted (next_at g s p)). never (let z = ap parts_of e in cc)) (only_comments_part g s p)
