-- An accepted token with an inside, its inside painted and other scalars after it: the same kind up to the escape mark, the same span. Assumes nothing.
use Rattle.std.specs.Prelude.{Ok}
use Prim.Native.Nat.{ℕ, zero, suc, ◌+◌, ◌≤◌}
use mathlib.Core.Path.{◌≡◌, refl, sym, ap, ◌∙◌}
use mathlib.Core.List.{List, [], ◌∷◌}
use mathlib.Core.Bool.{true, false}
use native.Mathlib.Omega.{arith}
use lib.ListN.{length}
use Rattle.families.proofs.Painted.{near_fits, token_painted}
use Rattle.families.proofs.Starts.{got_start}
use Rattle.families.specs.Near.{Near}
use Rattle.families.specs.Places.{place_after}
use Rattle.families.specs.Sane.{Sane}
use Rattle.families.specs.Shape.{Framed, Shape, comment_shape, line_shape, mark_after, mark_before, painted, plain_shape, shape_kind, string_shape, template_shape, xs}
use Rattle.numbers.proofs.Inverse.{plain_byte_str, plain_str}
use Rattle.numbers.specs.Kinds.{number_of, plain_kind}
use Rattle.readers.specs.Rules.{Rules}
use Rattle.readers.specs.Scan.{Stride}
use Rattle.templates.specs.Body.{token_of}
use Rattle.token.specs.Reads.{got_of}
use Rattle.token.specs.declared.read.Token.{Token}

plain_form : (shape : Shape) → shape_kind (plain_shape shape) ≡ plain_kind (shape_kind shape)
unfolding number_of
plain_form line_shape = refl
plain_form (comment_shape true) = refl
plain_form (comment_shape false) = refl
plain_form (string_shape true e) = sym (plain_byte_str e)
plain_form (string_shape false e) = sym (plain_str e)
plain_form (template_shape c) = refl

module _ (w : Stride) where
  pub after_shift : (f : List ℕ) (p : ℕ) → place_after w f p ≡ p + place_after w f 0
  unfolding place_after
  after_shift [] p = omega arith
  after_shift (v ∷ f) p = let a = after_shift f (p + w v) in let b = after_shift f (0 + w v) in omega arith

  pub after_xs : w 120 ≡ 1 → (j p : ℕ) → place_after w (xs j) p ≡ p + j
  unfolding place_after
  after_xs one zero p = omega arith
  after_xs one (suc j) p = let a = after_xs one j (p + w 120) in omega arith

module _ (R : Rules) where
  -- a scalar moves the place by one at least
  pub after_long : Sane R → (f : List ℕ) (p : ℕ) → p + length f ≤ place_after R.stride f p
  unfolding place_after
  after_long sane [] p = omega arith
  after_long sane (v ∷ f) p = let a = after_long sane f (p + R.stride v) in let s = sane.steps v in omega arith

  -- where an x takes one place
  module _ (sane : Sane R) (one : R.stride 120 ≡ 1) (d : ℕ) (cs : List ℕ) (p : ℕ) (k : Token) (e : token_of R (suc d) cs p ≡ Ok k) (f : Framed R cs p k) where
    pub token_shown : (y : List ℕ) → Near f.back y → token_of R (suc d) (painted R f.shape f.mid y) p ≡ Ok (record { kind = plain_kind k.kind; span = k.span })
    token_shown y h =
        let j = place_after R.stride f.mid 0 in
        let q = place_after R.stride (mark_before f.shape) p in
        let fits = near_fits R.skip f.shape f.mid f.back j y f.fits (let l = after_long sane f.mid 0 in omega arith) h in
        let kinds : shape_kind (plain_shape f.shape) ≡ plain_kind k.kind = plain_form f.shape ∙ ap plain_kind (sym f.kind) in
        let starts : p ≡ k.span.start = sym (got_start R (suc d) cs p k e) in
        let mids : place_after R.stride (xs j) q ≡ place_after R.stride f.mid q = after_xs R.stride one j q ∙ sym (after_shift R.stride f.mid q) in
        let ends : place_after R.stride (mark_after f.shape) (place_after R.stride (xs j) q) ≡ k.span.end = ap (place_after R.stride (mark_after f.shape)) mids ∙ sym f.ends in
        token_painted R sane d f.shape j y p fits ∙ (λ i. got_of (kinds i) (starts i) (ends i))
