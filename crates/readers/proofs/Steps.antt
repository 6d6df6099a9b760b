-- What the code's tests say of each reader's step, in the order of the readers. Assumes nothing.
use Prim.Native.Nat.{ℕ, ◌+◌}
use mathlib.Core.Path.{◌≡◌, refl}
use mathlib.Core.List.{List, [], ◌∷◌}
use mathlib.Core.Bool.{Bool, true, false}
use native.Mathlib.Omega.{arith}
use borrow.Author.Tests.{eq-eqb, ne_eqb}
use Rattle.classes.specs.Classes.{is_control}
use Rattle.laws.proofs.Cases.{split}
use Rattle.laws.specs.Bools.{both}
use Rattle.readers.specs.Numbers.{begins_digit, in_digits, in_number, joins, number_step, part_on, part_past_dot, signed, unsigned}
use Rattle.readers.specs.Readers.{backslashed, body, broken, byte_step, char_answer, char_step, control, escape, in_label, letters, run, run_step, shut, slashed, str_step, text}
use Rattle.readers.specs.Scan.{Stride, before, behind, on, scan}
use Rattle.readers.specs.declared.number.Part.{Part}

pub run_yes : (f : ℕ → Bool) (v : ℕ) (cs : List ℕ) → f v ≡ true → run_step f tt v cs ≡ on tt
run_yes f v cs h = rw h

pub run_no : (f : ℕ → Bool) (v : ℕ) (cs : List ℕ) → f v ≡ false → run_step f tt v cs ≡ before tt
run_no f v cs h = rw h

module _ (v : ℕ) (cs : List ℕ) where
  pub byte_slash : v ≡ 92 → byte_step body v cs ≡ on backslashed
  unfolding byte_step
  byte_slash h = rw (eq-eqb v 92 h, byte_step)

  module _ (n : v ≡ 92 → ⊥) where
    pub byte_close : v ≡ 39 → byte_step body v cs ≡ behind body
    unfolding byte_step
    byte_close h = rw (ne_eqb v 92 n, eq-eqb v 39 h, byte_step)

    module _ (m : v ≡ 39 → ⊥) where
      pub byte_control : is_control v ≡ true → byte_step body v cs ≡ behind control
      unfolding byte_step
      byte_control h = rw (ne_eqb v 92 n, ne_eqb v 39 m, h, byte_step)

      pub byte_more : is_control v ≡ false → byte_step body v cs ≡ on body
      unfolding byte_step
      byte_more h = rw (ne_eqb v 92 n, ne_eqb v 39 m, h, byte_step)

module _ (e : Bool) (v : ℕ) (cs : List ℕ) where
  pub str_close : v ≡ 34 → str_step (text e) v cs ≡ behind (text e)
  unfolding str_step
  str_close h = rw (eq-eqb v 34 h, str_step)

  module _ (n : v ≡ 34 → ⊥) where
    pub str_slash : v ≡ 92 → str_step (text e) v cs ≡ on (slashed e)
    unfolding str_step
    str_slash h = rw (ne_eqb v 34 n, eq-eqb v 92 h, str_step)

    pub str_more : (v ≡ 92 → ⊥) → str_step (text e) v cs ≡ on (text e)
    unfolding str_step
    str_more h = rw (ne_eqb v 34 n, ne_eqb v 92 h, str_step)

module _ (v : ℕ) (cs : List ℕ) where
  module _ (w : Bool) (r : Part) where
    pub number_more : in_number v ≡ true → number_step (unsigned w r) v cs ≡ on (unsigned w (part_on r v))
    unfolding number_step
    number_more h = rw (h, number_step)

    module _ (n : in_number v ≡ false) where
      pub number_other : joins w r v ≡ false → number_step (unsigned w r) v cs ≡ before (unsigned w r)
      unfolding number_step
      number_other h = rw (n, h, number_step)

      module _ (j : joins w r v ≡ true) where
        pub number_bare : begins_digit cs ≡ false → number_step (unsigned w r) v cs ≡ before (unsigned w r)
        unfolding number_step
        number_bare h = rw (n, j, h, number_step)

        pub number_dot : begins_digit cs ≡ true → v ≡ 46 → number_step (unsigned w r) v cs ≡ on (unsigned false (part_past_dot r))
        unfolding number_step
        number_dot h k = rw (n, j, h, eq-eqb v 46 k, number_step)

        pub number_sign : begins_digit cs ≡ true → (v ≡ 46 → ⊥) → number_step (unsigned w r) v cs ≡ on signed
        unfolding number_step
        number_sign h k = rw (n, j, h, ne_eqb v 46 k, number_step)

-- after the sign of an exponent a number is a run of digits and `_`
pub signed_run : (w : Stride) (cs : List ℕ) (p : ℕ) → run w in_digits cs p ≡ (scan number_step w signed p cs p).place
unfolding run scan number_step
signed_run w cs p = after_sign cs p p
  where
    after_sign : (cs : List ℕ) (l p : ℕ) → (scan (run_step in_digits) w tt l cs p).place ≡ (scan number_step w signed l cs p).place
    after_sign [] l p = refl
    after_sign (v ∷ cs) l p = split (in_digits v) (λ h. rw (h, scan, number_step) (after_sign cs p (p + w v))) (λ h. rw (h, scan, number_step) refl)

module _ (l m : Bool) (v : ℕ) (cs : List ℕ) where
  pub char_close : v ≡ 39 → char_step (letters l m) v cs ≡ behind (shut m)
  unfolding char_step
  char_close h = rw (ne_eqb v 92 (omega arith), eq-eqb v 39 h, char_step)

  module _ (q : v ≡ 39 → ⊥) where
    pub char_slash : v ≡ 92 → char_step (letters l m) v cs ≡ on escape
    unfolding char_step
    char_slash h = rw (eq-eqb v 92 h, char_step)

    module _ (n : v ≡ 92 → ⊥) where
      pub char_letter : in_label v ≡ true → char_step (letters l m) v cs ≡ on (letters l true)
      unfolding char_step
      char_letter h = rw (ne_eqb v 92 n, ne_eqb v 39 q, h, char_step)

      module _ (k : in_label v ≡ false) where
        pub char_control : is_control v ≡ true → char_step (letters l m) v cs ≡ before broken
        unfolding char_step
        char_control h = rw (ne_eqb v 92 n, ne_eqb v 39 q, k, h, char_step)

        module _ (i : is_control v ≡ false) where
          pub char_stop : both l m ≡ true → char_step (letters l m) v cs ≡ before (letters l m)
          unfolding char_step
          char_stop h = rw (ne_eqb v 92 n, ne_eqb v 39 q, k, i, h, char_step)

          pub char_other : both l m ≡ false → char_step (letters l m) v cs ≡ on (letters false true)
          unfolding char_step
          char_other h = rw (ne_eqb v 92 n, ne_eqb v 39 q, k, i, h, char_step)

-- the last place counts only after a backslash, and a closed char answers as one that ended with its label lost
pub answer_last : (a : ℕ) (l m : Bool) (p q e : ℕ) → char_answer a (letters l m) p e ≡ char_answer a (letters l m) q e
answer_last a true true p q e = refl
answer_last a true false p q e = refl
answer_last a false true p q e = refl
answer_last a false false p q e = refl

pub answer_shut : (a : ℕ) (m : Bool) (p q e : ℕ) → char_answer a (letters false m) p e ≡ char_answer a (shut m) q e
answer_shut a true p q e = refl
answer_shut a false p q e = refl
