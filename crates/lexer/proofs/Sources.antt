-- The shebang, refusal 12's span and the tests before reading, as the code makes them. Assumes nothing.
use Rattle.std.specs.Prelude.{Err, Ok}
use Rattle.token.specs.declared.reason.Reason.TheVariants.{ExpectedCharClose}
use Prim.Native.Nat.{ℕ, ◌+◌}
use mathlib.Core.Path.{◌≡◌, refl, sym, ap, ◌∙◌, subst}
use mathlib.Core.List.{List, [], ◌∷◌}
use mathlib.Core.Bool.{Bool, true, false}
use native.Mathlib.Omega.{arith}
use lib.Dec.{eqb}
use borrow.Author.Tests.{eq-eqb, eqb-true, ne_eqb}
use Rattle.laws.proofs.Cases.{both_false, both_inv, never}
use Rattle.laws.specs.Bools.{both}
use Rattle.lexer.specs.Next.{close_span, is_shebang, next_at, next_of, past_start_at, read_at, shebang_of}
use Rattle.readers.specs.Readers.{in_line, line_of, run}
use Rattle.readers.specs.Rules.{rules_of}
use Rattle.readers.specs.declared.reading.Reading.{Reading}
use Rattle.source_test.specs.Source.{after_test, position_test}
use Rattle.text.proofs.Decode.{Step, rest_tail}
use Rattle.text.proofs.Leads.{width_1}
use Rattle.text.specs.Utf8.{rest, width}
use Rattle.token.specs.Reads.{got_of, refused_of, Read, Tested, number_in}
use Rattle.token.specs.declared.kind.Kind.TheVariants.{Shebang}
use Rattle.token.specs.declared.read.Refusal.{Refusal}
use Rattle.token.specs.declared.read.Token.{Token}

module _ (s : List ℕ) where
  pub bang_end : rest s 0 ≡ [] → false ≡ is_shebang (rest s 0)
  bang_end e = rw e

  module _ (v n : ℕ) (t : Step s 0 v n) where
    pub bang_other : (v ≡ 35 → ⊥) → false ≡ is_shebang (rest s 0)
    bang_other h = rw (t.here, ne_eqb v 35 h)

    module _ (h : v ≡ 35) where
      pub bang_cut : rest s n ≡ [] → false ≡ is_shebang (rest s 0)
      bang_cut e = rw (t.here, e, both_false)

      pub bang_second : (w m : ℕ) → Step s n w m → eqb w 33 ≡ is_shebang (rest s 0)
      bang_second w m u = rw (t.here, u.here, eq-eqb v 35 h)

pub close_other : (n : ℕ) (r : Read) (k : Refusal) → r ≡ Err k → (number_in k ≡ 12 → ⊥) → r ≡ close_span n r
close_other n r k e h = rw (e, ne_eqb (number_in k) 12 h)

pub close_empty : (n : ℕ) (r : Read) (k : Refusal) → r ≡ Err k → number_in k ≡ 12 → refused_of ExpectedCharClose k.span.start n k.reached ≡ close_span n r
close_empty n r k e h = rw (e, eq-eqb (number_in k) 12 h)

pub close_got : (n : ℕ) (r : Read) (k : Token) → r ≡ Ok k → r ≡ close_span n r
close_got n r k e = rw e

-- `#!` takes two bytes
pub next_shebang : (g : Reading) (s : List ℕ) (at : ℕ) → at ≡ 0 → is_shebang (rest s 0) ≡ true → got_of Shebang 0 (run width in_line (rest s 2) 2) ≡ next_at g s at
unfolding next_at next_of line_of width
next_shebang g s at z h = subst (λ (x : ℕ). got_of Shebang 0 (run width in_line (rest s 2) 2) ≡ next_at g s x) (sym z) (rw h (behind_two (rest s 0) refl h))
  where
    behind_two : (cs : List ℕ) → cs ≡ rest s 0 → is_shebang cs ≡ true → got_of Shebang 0 (run width in_line (rest s 2) 2) ≡ shebang_of (rules_of g) cs 0
    behind_two [] e i = never (cc)
    behind_two (v ∷ []) e i = never (let q = (both_inv (eqb v 35) false i).1 in cc)
    behind_two (v ∷ (w ∷ cs)) e i =
        let b = both_inv (eqb v 35) (eqb w 33) i in
        let ev = eqb-true v 35 b.0 in
        let ew = eqb-true w 33 b.1 in
        let e1 = rest_tail s 0 v (w ∷ cs) e in
        let e2 = rest_tail s (0 + width v) w cs e1 in
        let wv : width v ≡ 1 = width_1 v (omega arith) in
        let ww : width w ≡ 1 = width_1 w (omega arith) in
        let two : 0 + width v + width w ≡ 2 = omega arith in
        sym (λ k. got_of Shebang 0 (run width in_line (((e2 ∙ ap (rest s) two)) k) (two k)))

pub later_token : (g : Reading) (s : List ℕ) (at : ℕ) → both (eqb at 0) (is_shebang (rest s at)) ≡ false → past_start_at g s at ≡ next_at g s at
unfolding past_start_at next_at next_of
later_token g s at h = rw h

pub later_none : (s : List ℕ) (at : ℕ) → (at ≡ 0 → ⊥) → both (eqb at 0) (is_shebang (rest s at)) ≡ false
later_none s at h = ap (λ (b : Bool). both b (is_shebang (rest s at))) (ne_eqb at 0 h)

pub later_next : (g : Reading) (s : List ℕ) (at : ℕ) → (at ≡ 0 → ⊥) → past_start_at g s at ≡ next_at g s at
later_next g s at h = later_token g s at (later_none s at h)

pub no_shebang : (s : List ℕ) (at : ℕ) → at ≡ 0 → is_shebang (rest s 0) ≡ false → both (eqb at 0) (is_shebang (rest s at)) ≡ false
no_shebang s at z h = subst (λ (x : ℕ). both (eqb x 0) (is_shebang (rest s x)) ≡ false) (sym z) h

pub read_case : (g : Reading) (s : List ℕ) (at : ℕ) (q : Tested) → q ≡ position_test s at → read_at g s at ≡ after_test q (next_at g s at) Err
unfolding read_at
read_case g s at q e = rw (← e, read_at)
