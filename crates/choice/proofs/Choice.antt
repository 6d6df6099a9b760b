-- Which rule the code's tests choose, and cases on the rule chosen. Assumes nothing.
use Rattle.std.specs.Prelude.{None, Option, Some}
use Rattle.token.specs.declared.reason.Reason.TheVariants.{UnexpectedChar}
use Prim.Native.Nat.{ℕ}
use mathlib.Core.Path.{◌≡◌, refl, sym, ap, ◌∙◌, subst}
use mathlib.Core.List.{List, [], ◌∷◌}
use mathlib.Core.Bool.{Bool, true, false}
use lib.Dec.{eqb}
use borrow.Author.Tests.{eq-eqb, ne_eqb}
use Rattle.choice.specs.Rule.{Deep, behind_one, first_of, found_or, left_of, next_is, no_template, other_of}
use Rattle.classes.specs.Classes.{is_white_space, is_xid_continue, is_xid_start, white_space, xid_start}
use Rattle.classes.specs.Digits.{is_digit}
use Rattle.laws.proofs.Cases.{both_false, split}
use Rattle.laws.specs.Bools.{both, pick}
use Rattle.laws.specs.Tables.{in_ranges}
use Rattle.operators.specs.Operators.{find_one, find_three, find_two, look_one, look_three, look_two, ones, operator, operator_of, threes, twos}
use Rattle.operators.specs.declared.Operator.{Operator}
use Rattle.readers.specs.Numbers.{number_lit_of}
use Rattle.readers.specs.Readers.{byte_of, char_of, comment_of, line_of, starts_word, str_of, white_of, word_of}
use Rattle.readers.specs.Rules.{Rules, rules_of, rune, skip_of}
use Rattle.readers.specs.declared.reading.Reading.{Reading}
use Rattle.text.proofs.Decode.{Step}
use Rattle.text.specs.Utf8.{rest, width}
use Rattle.token.specs.Reads.{got_of, refused_of, Read}
use Rattle.token.specs.declared.kind.Kind.{Kind}
use Rattle.token.specs.declared.kind.Kind.TheVariants.{Comment}

module _ (g : Reading) (t : Deep) (a : ℕ) (cs : List ℕ) (p v : ℕ) where
  pub first_white : is_white_space v ≡ true → white_of width a cs p ≡ first_of (rules_of g) t v a cs p
  unfolding first_of
  first_white h = rw (h, first_of)

  pub first_str : v ≡ 34 → str_of width false a cs p ≡ first_of (rules_of g) t v a cs p
  unfolding first_of in_ranges white_space
  first_str h = ap (λ (x : ℕ). first_of (rules_of g) t x a cs p) (sym h)

  pub first_other : is_white_space v ≡ false → (v ≡ 34 → ⊥) → (v ≡ 47 → ⊥) → (v ≡ 98 → ⊥) → other_of (rules_of g) t v a cs p ≡ first_of (rules_of g) t v a cs p
  unfolding first_of
  first_other h i j k = rw (h, ne_eqb v 34 i, ne_eqb v 47 j, ne_eqb v 98 k, first_of)

  -- what holds of the mark c holds of v, which is that mark
  pub by_mark : (c : ℕ) → v ≡ c → other_of (rules_of g) t c a cs p ≡ first_of (rules_of g) t c a cs p → other_of (rules_of g) t v a cs p ≡ first_of (rules_of g) t v a cs p
  by_mark c h k = subst (λ (x : ℕ). other_of (rules_of g) t x a cs p ≡ first_of (rules_of g) t x a cs p) (sym h) k

  -- no mode changes operators and what comes after them
  pub other_any : other_of (rules_of rune) t v a cs p ≡ other_of (rules_of g) t v a cs p
  unfolding other_of left_of
  other_any = refl

  pub other_found : (k : Kind) (e : ℕ) → operator_of width v cs p ≡ Some (operator k e) → got_of k a e ≡ other_of (rules_of g) t v a cs p
  unfolding other_of
  other_found k e h = rw h

  pub other_left : operator_of width v cs p ≡ None → left_of (rules_of g) t v a cs p ≡ other_of (rules_of g) t v a cs p
  unfolding other_of
  other_left h = rw h

  pub left_low : v ≡ 95 → word_of width is_xid_continue v a cs p ≡ left_of (rules_of g) t v a cs p
  unfolding left_of
  left_low h = rw (eq-eqb v 95 h, left_of)

  module _ (n : v ≡ 95 → ⊥) where
    pub left_word : is_xid_start v ≡ true → word_of width is_xid_continue v a cs p ≡ left_of (rules_of g) t v a cs p
    unfolding left_of
    left_word h = rw (ne_eqb v 95 n, h, left_of)

    module _ (w : is_xid_start v ≡ false) where
      pub left_number : is_digit v ≡ true → number_lit_of width true v a cs p ≡ left_of (rules_of g) t v a cs p
      unfolding left_of
      left_number h = rw (ne_eqb v 95 n, w, h, left_of)

      module _ (d : is_digit v ≡ false) where
        pub left_char : v ≡ 39 → char_of width a cs p ≡ left_of (rules_of g) t v a cs p
        unfolding left_of
        left_char h = rw (ne_eqb v 95 n, w, d, eq-eqb v 39 h, left_of)

-- a backtick's rule is the last, so nothing else is asked of it
pub left_none : (g : Reading) (a : ℕ) (cs : List ℕ) (p v : ℕ) → (v ≡ 95 → ⊥) → is_xid_start v ≡ false → is_digit v ≡ false → (v ≡ 39 → ⊥) → refused_of UnexpectedChar a p p ≡ left_of (rules_of g) no_template v a cs p
unfolding left_of
left_none g a cs p v n w d c = rw (ne_eqb v 95 n, w, d, ne_eqb v 39 c, left_of) (split (eqb v 96) (λ e. rw e) (λ e. rw e))

module _ (g : Reading) (t : Deep) (a : ℕ) (s : List ℕ) (p : ℕ) where
  pub slash_end : rest s p ≡ [] → other_of (rules_of g) t 47 a (rest s p) p ≡ first_of (rules_of g) t 47 a (rest s p) p
  unfolding first_of in_ranges white_space
  slash_end e = rw e

  pub b_end : rest s p ≡ [] → other_of (rules_of g) t 98 a (rest s p) p ≡ first_of (rules_of g) t 98 a (rest s p) p
  unfolding first_of in_ranges white_space
  b_end e = rw e

  module _ (w n : ℕ) (u : Step s p w n) where
    behind_step : (f : List ℕ → ℕ → Read) → f (rest s n) n ≡ behind_one (rules_of g) f (rest s p) p
    behind_step f = rw u.here (ap (f (rest s n)) u.next)

    next_is_law : (c : ℕ) → w ≡ c → next_is c (rest s p) ≡ true
    next_is_law c h = rw u.here (eq-eqb w c h)

    next_not : (c : ℕ) → (w ≡ c → ⊥) → next_is c (rest s p) ≡ false
    next_not c h = rw u.here (ne_eqb w c h)

    pub slash_line : w ≡ 47 → line_of width Comment a (rest s n) n ≡ first_of (rules_of g) t 47 a (rest s p) p
    unfolding first_of in_ranges white_space
    slash_line h = behind_step (line_of width Comment a) ∙ rw (next_is_law 47 h)

    pub slash_comment : (w ≡ 47 → ⊥) → w ≡ 42 → comment_of width (skip_of g.comments) a (rest s n) n ≡ first_of (rules_of g) t 47 a (rest s p) p
    unfolding first_of in_ranges white_space
    slash_comment i h = behind_step (comment_of width (skip_of g.comments) a) ∙ rw (next_not 47 i, next_is_law 42 h)

    pub slash_other : (w ≡ 47 → ⊥) → (w ≡ 42 → ⊥) → other_of (rules_of g) t 47 a (rest s p) p ≡ first_of (rules_of g) t 47 a (rest s p) p
    unfolding first_of in_ranges white_space
    slash_other i h = rw (next_not 47 i, next_not 42 h)

    pub b_byte : w ≡ 39 → byte_of width a (rest s n) n ≡ first_of (rules_of g) t 98 a (rest s p) p
    unfolding first_of in_ranges white_space
    b_byte h = behind_step (byte_of width a) ∙ rw (next_is_law 39 h)

    pub b_str : (w ≡ 39 → ⊥) → w ≡ 34 → str_of width true a (rest s n) n ≡ first_of (rules_of g) t 98 a (rest s p) p
    unfolding first_of in_ranges white_space
    b_str i h = behind_step (str_of width true a) ∙ rw (next_not 39 i, next_is_law 34 h)

    pub b_other : (w ≡ 39 → ⊥) → (w ≡ 34 → ⊥) → other_of (rules_of g) t 98 a (rest s p) p ≡ first_of (rules_of g) t 98 a (rest s p) p
    unfolding first_of in_ranges white_space
    b_other i h = rw (next_not 39 i, next_not 34 h)

-- how a template is read is of no account where no backtick stands
pub first_plain : (R : Rules) (t t' : Deep) (v a : ℕ) (cs : List ℕ) (p : ℕ) → (v ≡ 96 → ⊥) → first_of R t v a cs p ≡ first_of R t' v a cs p
unfolding first_of other_of left_of
first_plain R t t' v a cs p h = rw (ne_eqb v 96 h, first_of, other_of, left_of)

-- no other rule reads a backtick
pub first_deep : (g : Reading) (t : Deep) (v a : ℕ) (cs : List ℕ) (p : ℕ) → v ≡ 96 → t a cs p ≡ first_of (rules_of g) t v a cs p
unfolding first_of other_of left_of operator_of find_one find_two find_three look_one look_two look_three ones twos threes in_ranges white_space xid_start
first_deep g t v a cs p h = no_operator cs ∙ ap (λ (x : ℕ). first_of (rules_of g) t x a cs p) (sym h)
  where
    no_operator : (cs : List ℕ) → t a cs p ≡ first_of (rules_of g) t 96 a cs p
    no_operator [] = refl
    no_operator (w ∷ []) = refl
    no_operator (w ∷ (x ∷ cs)) = refl

-- cases on the rule chosen
module _ (R : Rules) (t : Deep) (v a : ℕ) (cs : List ℕ) (p : ℕ) (P : Read → Type 0) where
  pub first-cases :
      P (white_of R.stride a cs p) → (next_is 47 cs ≡ true → P (behind_one R (line_of R.stride Comment a) cs p)) → (next_is 42 cs ≡ true → P (behind_one R (comment_of R.stride R.skip a) cs p))
      → (next_is 39 cs ≡ true → P (behind_one R (byte_of R.stride a) cs p)) → (next_is 34 cs ≡ true → P (behind_one R (str_of R.stride true a) cs p)) → P (str_of R.stride false a cs p)
      → ((k : Kind) (e : ℕ) → operator_of R.stride v cs p ≡ Some (operator k e) → P (got_of k a e)) → P (word_of R.stride R.continue v a cs p) → P (number_lit_of R.stride R.exponents v a cs p) → P (char_of R.stride a cs p) → P (t a cs p)
      → P (refused_of UnexpectedChar a p p) → P (first_of R t v a cs p)
  unfolding first_of other_of left_of
  first-cases white line comment byte bytes str op word number char deep none =
      pick_case (is_white_space v) white
      (two_case 47 47 line (two_case 47 42 comment (two_case 98 39 byte (two_case 98 34 bytes
      (pick_case (eqb v 34) str
      (found_case (operator_of R.stride v cs p) refl
      (pick_case (starts_word R v) word (pick_case (is_digit v) number (pick_case (eqb v 39) char (pick_case (eqb v 96) deep none))))))))))
    where
      pick_case : (b : Bool) {x y : Read} → P x → P y → P (pick b x y)
      pick_case true h k = h
      pick_case false h k = k

      two_case : (c d : ℕ) {x y : Read} → (next_is d cs ≡ true → P x) → P y → P (pick (both (eqb v c) (next_is d cs)) x y)
      two_case c d h k = split (next_is d cs) (λ e. pick_case (both (eqb v c) (next_is d cs)) (h e) k) (λ e. rw (e, both_false) k)

      found_case : (o : Option Operator) {y : Read} → operator_of R.stride v cs p ≡ o → P y → P (found_or o a y)
      found_case (Some o) q h = op o.kind o.end q
      found_case None q h = h
