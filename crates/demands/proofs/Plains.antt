-- Tokens up to the escape mark: nothing else changes, and nothing changes twice. Assumes nothing.
use Prim.Native.Nat.{ℕ}
use mathlib.Core.Path.{◌≡◌, refl, ap}
use lib.Dec.{ltb}
use borrow.Author.Tests.{ne_eqb}
use Rattle.demands.specs.Plain.{plain_token, plain_tokens}
use Rattle.families.specs.Tokens.{Tokens, fin, halt, more}
use Rattle.laws.proofs.Cases.{split, split_eq}
use Rattle.marks.specs.Marks.{close_mark, open_mark}
use Rattle.marks.specs.Shut.{is_shut}
use Rattle.numbers.specs.Kinds.{number_of, plain_kind}
use Rattle.outline.specs.Outline.{inside_at, inside_token}
use Rattle.token.specs.declared.kind.Kind.{Kind}
use Rattle.token.specs.declared.read.Token.{Token}
use Rattle.marks.specs.Marks as kept

module _ (k : Kind) where
  plain_twice : plain_kind (plain_kind k) ≡ plain_kind k
  unfolding number_of
  plain_twice =
      split_eq (number_of k) 12 (λ e. rw e)
      (λ a. split_eq (number_of k) 14 (λ e. rw e) (λ b. let same_kind : plain_kind k ≡ k = rw (ne_eqb (number_of k) 12 a, ne_eqb (number_of k) 14 b) in ap (λ (x : Kind). plain_kind x) same_kind))

pub plain_again : (ts : Tokens) → plain_tokens (plain_tokens ts) ≡ plain_tokens ts
unfolding plain_tokens
plain_again fin = refl
plain_again (halt r) = refl
plain_again (more k ts) = λ i. more (record { kind = plain_twice k.kind i; span = k.span }) (plain_again ts i)

-- the outline does not look at the escape mark
mark_free : (k : Token) (i : ℕ) → inside_token (plain_token k) i ≡ inside_token k i
unfolding inside_token kept.open_mark kept.close_mark number_of is_shut
mark_free k i =
    split_eq (number_of k.kind) 12 (λ e. rw e)
    (λ a. split_eq (number_of k.kind) 14 (λ e. rw e) (λ b. rw (ne_eqb (number_of k.kind) 12 a, ne_eqb (number_of k.kind) 14 b)))

pub inside_plain : (ts : Tokens) (i : ℕ) → inside_at (plain_tokens ts) i ≡ inside_at ts i
unfolding inside_at plain_tokens
inside_plain fin i = refl
inside_plain (halt r) i = refl
inside_plain (more k ts) i = split (ltb i k.span.end) (λ h. rw (h, inside_at) (mark_free k i)) (λ h. rw (h, inside_at) (inside_plain ts i))
