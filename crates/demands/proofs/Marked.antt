-- What of a token lies inside it, and which tokens have an inside. Assumes nothing.
use Prim.Native.Nat.{ℕ, ◌+◌, ◌≤◌, ◌<◌}
use mathlib.Core.Path.{◌≡◌, refl}
use mathlib.Core.List.{List, [], ◌∷◌, ◌++◌}
use mathlib.Core.Bool.{Bool, true, false}
use native.Mathlib.Omega.{arith}
use lib.Dec.{leb}
use lib.ListN.{length}
use borrow.Author.Tests.{le-leb, le-ltb, lt-leb, lt-ltb, ne_eqb}
use Rattle.families.specs.Places.{place_after}
use Rattle.families.specs.Shape.{Shape, comment_shape, line_shape, mark_after, mark_before, shape_kind, string_shape, template_shape}
use Rattle.laws.proofs.Cases.{both_false, never, split_eq}
use Rattle.lexer.specs.Next.{is_shebang}
use Rattle.marks.specs.Marks.{close_mark, open_mark}
use Rattle.marks.specs.Shut.{is_shut}
use Rattle.numbers.specs.Kinds.{has_inside, number_of, plain_kind}
use Rattle.outline.specs.Outline.{inside_token}
use Rattle.readers.specs.Numbers.{asks_digit}
use Rattle.text.specs.Utf8.{width}
use Rattle.token.specs.declared.kind.Kind.{Kind}
use Rattle.token.specs.declared.read.Token.{Token}
use Rattle.marks.specs.Marks as kept

module _ (k : Token) (i : ℕ) where
  pub in_plain : has_inside k.kind ≡ false → inside_token k i ≡ false
  unfolding inside_token
  in_plain h = rw h

  pub in_before : i < k.span.start + length (kept.open_mark k.kind) → inside_token k i ≡ false
  unfolding inside_token
  in_before h = rw (lt-leb (k.span.start + length (kept.open_mark k.kind)) i h) (both_false (has_inside k.kind))

  pub in_behind : k.span.end ≤ i + length (kept.close_mark k.kind) → inside_token k i ≡ false
  unfolding inside_token
  in_behind h =
      rw (le-ltb (i + length (kept.close_mark k.kind)) k.span.end h, both_false (leb (k.span.start + length (kept.open_mark k.kind)) i))
      (both_false (has_inside k.kind))

  pub in_middle : has_inside k.kind ≡ true → k.span.start + length (kept.open_mark k.kind) ≤ i → i + length (kept.close_mark k.kind) < k.span.end → inside_token k i ≡ true
  unfolding inside_token
  in_middle h l u = rw (h, le-leb (k.span.start + length (kept.open_mark k.kind)) i l, lt-ltb (i + length (kept.close_mark k.kind)) k.span.end u)

-- the marks by kind and by form, in bytes
pub form_inside : (f : Shape) → has_inside (shape_kind f) ≡ true
unfolding number_of
form_inside line_shape = refl
form_inside (comment_shape true) = refl
form_inside (comment_shape false) = refl
form_inside (string_shape true true) = refl
form_inside (string_shape true false) = refl
form_inside (string_shape false true) = refl
form_inside (string_shape false false) = refl
form_inside (template_shape c) = refl

pub form_opens : (f : Shape) → kept.open_mark (shape_kind f) ≡ mark_before f
unfolding kept.open_mark number_of
form_opens line_shape = refl
form_opens (comment_shape true) = refl
form_opens (comment_shape false) = refl
form_opens (string_shape true true) = refl
form_opens (string_shape true false) = refl
form_opens (string_shape false true) = refl
form_opens (string_shape false false) = refl
form_opens (template_shape c) = refl

pub form_closes : (f : Shape) → kept.close_mark (shape_kind f) ≡ mark_after f
unfolding kept.close_mark number_of is_shut
form_closes line_shape = refl
form_closes (comment_shape true) = refl
form_closes (comment_shape false) = refl
form_closes (string_shape true true) = refl
form_closes (string_shape true false) = refl
form_closes (string_shape false true) = refl
form_closes (string_shape false false) = refl
form_closes (template_shape true) = refl
form_closes (template_shape false) = refl

pub opens_far : (f : Shape) (p : ℕ) → place_after width (mark_before f) p ≡ p + length (mark_before f)
unfolding place_after width
opens_far line_shape p = omega arith
opens_far (comment_shape c) p = omega arith
opens_far (string_shape true e) p = omega arith
opens_far (string_shape false e) p = omega arith
opens_far (template_shape c) p = omega arith

pub closes_far : (f : Shape) (p : ℕ) → place_after width (mark_after f) p ≡ p + length (mark_after f)
unfolding place_after width
closes_far line_shape p = omega arith
closes_far (comment_shape true) p = omega arith
closes_far (comment_shape false) p = omega arith
closes_far (string_shape b e) p = omega arith
closes_far (template_shape true) p = omega arith
closes_far (template_shape false) p = omega arith

pub opens_some : (f : Shape) → 0 < length (mark_before f)
opens_some line_shape = omega arith
opens_some (comment_shape c) = omega arith
opens_some (string_shape true e) = omega arith
opens_some (string_shape false e) = omega arith
opens_some (template_shape c) = omega arith

-- no mark starts as a shebang or with `.`
pub opens_no_bang : (f : Shape) (x : List ℕ) → is_shebang (mark_before f ++ x) ≡ false
opens_no_bang line_shape x = refl
opens_no_bang (comment_shape c) x = refl
opens_no_bang (string_shape true e) x = refl
opens_no_bang (string_shape false e) x = refl
opens_no_bang (template_shape c) x = refl

-- a digit is asked for after the first scalar
abbrev pub first_asks : List ℕ → Bool
first_asks [] = false
first_asks (v ∷ cs) = asks_digit v

pub opens_no_asking : (f : Shape) (x : List ℕ) → first_asks (mark_before f ++ x) ≡ false
opens_no_asking line_shape x = refl
opens_no_asking (comment_shape c) x = refl
opens_no_asking (string_shape true e) x = refl
opens_no_asking (string_shape false e) x = refl
opens_no_asking (template_shape c) x = refl

-- a token without an inside has no escape mark
pub plain_kind_law : (k : Kind) → has_inside k ≡ false → plain_kind k ≡ k
plain_kind_law k h =
    split_eq (number_of k) 12 (λ e. never (let z : has_inside k ≡ true = rw e in cc))
    (λ i. split_eq (number_of k) 14 (λ e. never (let z : has_inside k ≡ true = rw e in cc)) (λ j. rw (ne_eqb (number_of k) 12 i, ne_eqb (number_of k) 14 j)))
