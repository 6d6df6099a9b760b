-- Two runs side by side: the rule that reads a token, and a scalar of a template's body, decided alike. Assumes nothing.
use Rattle.std.specs.Prelude.{None, Option, Some}
use Rattle.token.specs.declared.reason.Reason.TheVariants.{UnexpectedChar}
use Prim.Native.Nat.{ℕ, ◌+◌}
use mathlib.Core.Path.{◌≡◌, refl, ap}
use mathlib.Core.List.{List, [], ◌∷◌}
use mathlib.Core.Bool.{Bool, true, false}
use lib.Dec.{eqb}
use borrow.Author.Tests.{eqb-true}
use Rattle.choice.specs.Rule.{Deep, behind_one, first_of, found_or, left_of, next_is, other_of}
use Rattle.classes.specs.Classes.{is_white_space}
use Rattle.classes.specs.Digits.{is_digit}
use Rattle.laws.proofs.Cases.{both_inv, split}
use Rattle.laws.specs.Bools.{both, pick}
use Rattle.lexer.specs.Next.{shebang_of}
use Rattle.operators.specs.Operators.{operator, operator_of}
use Rattle.operators.specs.declared.Operator.{Operator}
use Rattle.readers.specs.Numbers.{number_lit_of}
use Rattle.readers.specs.Readers.{byte_of, char_of, comment_of, line_of, starts_word, str_of, white_of, word_of}
use Rattle.readers.specs.Rules.{Rules}
use Rattle.readers.specs.Scan.{Stride}
use Rattle.templates.specs.Body.{down, go_on, template_turn, up}
use Rattle.token.specs.Reads.{got_of, refused_of, Read}
use Rattle.token.specs.declared.kind.Kind.{Kind}
use Rattle.token.specs.declared.kind.Kind.TheVariants.{Comment, Shebang, Template}

-- how a token is read that starts with the scalar v, twice: the cases that a relation of the two answers has to be shown for, each with its test
module _ (R R' : Rules) (t t' : Deep) (v a a' : ℕ) (cs cs' : List ℕ) (p p' : ℕ) (P : Read → Read → Type 0) where
  pick_both : (b : Bool) {x y x' y' : Read} → (b ≡ true → P x x') → P y y' → P (pick b x y) (pick b x' y')
  pick_both true h k = h refl
  pick_both false h k = k

  pub first-both :
      ((c : ℕ) → next_is c cs' ≡ next_is c cs) → R'.start v ≡ R.start v
      → P (white_of R.stride a cs p) (white_of R'.stride a' cs' p')
      → (both (eqb v 47) (next_is 47 cs) ≡ true → P (behind_one R (line_of R.stride Comment a) cs p) (behind_one R' (line_of R'.stride Comment a') cs' p'))
      → (both (eqb v 47) (next_is 42 cs) ≡ true → P (behind_one R (comment_of R.stride R.skip a) cs p) (behind_one R' (comment_of R'.stride R'.skip a') cs' p'))
      → (next_is 39 cs ≡ true → P (behind_one R (byte_of R.stride a) cs p) (behind_one R' (byte_of R'.stride a') cs' p'))
      → (both (eqb v 98) (next_is 34 cs) ≡ true → P (behind_one R (str_of R.stride true a) cs p) (behind_one R' (str_of R'.stride true a') cs' p'))
      → (eqb v 34 ≡ true → P (str_of R.stride false a cs p) (str_of R'.stride false a' cs' p'))
      → ((k : Kind) (e : ℕ) → operator_of R.stride v cs p ≡ Some (operator k e) → P (got_of k a e) (other_of R' t' v a' cs' p'))
      → (operator_of R.stride v cs p ≡ None → operator_of R'.stride v cs' p' ≡ None)
      → P (word_of R.stride R.continue v a cs p) (word_of R'.stride R'.continue v a' cs' p') → P (number_lit_of R.stride R.exponents v a cs p) (number_lit_of R'.stride R'.exponents v a' cs' p') → P (char_of R.stride a cs p) (char_of R'.stride a' cs' p')
      → (eqb v 96 ≡ true → P (t a cs p) (t' a' cs' p')) → P (refused_of UnexpectedChar a p p) (refused_of UnexpectedChar a' p' p') → P (first_of R t v a cs p) (first_of R' t' v a' cs' p')
  unfolding first_of other_of left_of
  first-both alike start white line comment byte bytes str op none word number char deep other =
      rw (alike 47, alike 42, alike 39, alike 34)
      (pick_both (is_white_space v) (λ h. white)
      (pick_both (both (eqb v 47) (next_is 47 cs)) line
      (pick_both (both (eqb v 47) (next_is 42 cs)) comment
      (pick_both (both (eqb v 98) (next_is 39 cs)) (λ h. byte (both_inv (eqb v 98) (next_is 39 cs) h).1)
      (pick_both (both (eqb v 98) (next_is 34 cs)) bytes
      (pick_both (eqb v 34) str
      (found (operator_of R.stride v cs p) refl)))))))
    where
      left : P (left_of R t v a cs p) (left_of R' t' v a' cs' p')
      left =
          rw start
          (pick_both (starts_word R v) (λ h. word)
          (pick_both (is_digit v) (λ h. number) (pick_both (eqb v 39) (λ h. char) (pick_both (eqb v 96) deep other))))

      found : (o : Option Operator) → operator_of R.stride v cs p ≡ o → P (found_or o a (left_of R t v a cs p)) (other_of R' t' v a' cs' p')
      found (Some o) q = op o.kind o.end q
      found None q = rw (none q) left

-- one scalar of a template's body, twice
module _ (next next' : List ℕ → ℕ → Read) (a a' v : ℕ) (cs cs' : List ℕ) (p p' l : ℕ) (go go' : ℕ → ℕ → Read) (P : Read → Read → Type 0) where
  pub turn-both :
      (v ≡ 96 → P (got_of (Template true) a p) (got_of (Template true) a' p')) → ((m : ℕ) → P (go 0 m) (go' 0 m))
      → P (go_on a (next cs p) (λ t. go t l)) (go_on a' (next' cs' p') (λ t. go' t l)) → P (template_turn next a v cs p l go) (template_turn next' a' v cs' p' l go')
  unfolding template_turn
  turn-both closes further inner =
      split (eqb v 96) (λ h. split (eqb l 0) (λ i. rw (h, i, template_turn) (closes (eqb-true v 96 h))) (λ i. rw (h, i, template_turn) (further l)))
      (λ h. split (eqb v 123) (λ i. rw (h, i, template_turn) (further (up l)))
      (λ i. split (eqb v 125) (λ j. rw (h, i, j, template_turn) (further (down l)))
      (λ j. split (eqb v 92) (λ k. rw (h, i, j, k, template_turn) inner) (λ k. rw (h, i, j, k, template_turn) (further l)))))

-- what asks nothing of the rules but how far a scalar moves the place
module _ (R R' : Rules) (e : R'.stride ≡ R.stride) where
  pub behind_same : (f : List ℕ → ℕ → Read) (cs : List ℕ) (p : ℕ) → behind_one R' f cs p ≡ behind_one R f cs p
  behind_same f [] p = refl
  behind_same f (v ∷ cs) p = ap (λ (w : Stride). f cs (p + w v)) e

  pub bang_same : (cs : List ℕ) (p : ℕ) → shebang_of R' cs p ≡ shebang_of R cs p
  bang_same [] p = ap (λ (w : Stride). line_of w Shebang p [] p) e
  bang_same (v ∷ []) p = ap (λ (w : Stride). line_of w Shebang p [] (p + w v)) e
  bang_same (v ∷ (u ∷ cs)) p = ap (λ (w : Stride). line_of w Shebang p cs (p + w v + w u)) e
